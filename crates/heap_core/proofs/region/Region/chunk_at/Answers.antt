use Rattle.heap_core.proofs.Lemmas.{arith, chunk_at}
use Rattle.heap_core.proofs.region.Region.chunk_at.Goals as goal
use Rattle.heap_core.proofs.region.Region.chunk_at.Goals.{then-is_a_name, else-is_a_name}

pub returns : goal.returns
unfolding chunk_at
returns c = grind arith
