use Rattle.heap_core.proofs.Lemmas.{arith, length-range, chunk_at, word_inside}
use Rattle.heap_core.proofs.region.Region.next_word.Goals as goal

pub word_in-requires : goal.word_in-requires
word_in-requires c = grind (arith, length-range)

pub returns-clause-link : goal.returns-clause-link
unfolding chunk_at
returns-clause-link c = grind (arith, word_inside)
