use Rattle.heap_core.proofs.Lemmas.{arith, chunk_at}
use Rattle.heap_core.proofs.region.Region.freed_chunk.Goals as goal

pub returns : goal.returns
unfolding chunk_at
returns c = grind arith
