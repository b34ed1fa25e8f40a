use Rattle.heap_core.proofs.Lemmas.{arith, length-range, chunk_at, word_inside}
use Rattle.heap_core.proofs.region.Region.len_told.Goals as goal

pub word_in-requires : goal.word_in-requires
word_in-requires c = grind (arith, length-range)

pub returns : goal.returns
unfolding chunk_at
returns c = grind (arith, word_inside)
