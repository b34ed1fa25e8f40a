use Rattle.heap_core.proofs.Lemmas.{arith, shortest, live_in_order, live_gaps_long, blocks_lie_apart}
use Rattle.heap_core.proofs.heap.Heap.blocks_lie_apart.Goals as goal

pub returns : goal.returns
unfolding shortest
returns c = grind (arith, live_in_order, live_gaps_long, blocks_lie_apart)
