use Rattle.heap_core.proofs.Lemmas.{arith, chunk_at}
use Rattle.heap_core.proofs.region.Region.put_link.Goals as goal

pub returns-clause-chunk : goal.returns-clause-chunk
unfolding chunk_at
returns-clause-chunk c = grind arith

pub returns-clause-others : goal.returns-clause-others
returns-clause-others c = grind arith
