use Rattle.heap_core.proofs.Lemmas.{arith}
use Rattle.heap_core.proofs.heap.Heap.bytes.Goals as goal

pub bytes-requires : goal.bytes-requires
bytes-requires c = grind arith
