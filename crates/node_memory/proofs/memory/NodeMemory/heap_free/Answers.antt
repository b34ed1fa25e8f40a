use Rattle.heap_core.specs.HeapStore.{freed}
use Rattle.node_memory.proofs.HeapBlocks.{asked-done}
use Rattle.node_memory.proofs.LaidOut.{heap-shown}
use Rattle.std.proofs.Common.{arith}
use Rattle.node_memory.proofs.memory.NodeMemory.heap_free.Goals as goal

pub returns-clause-asked : goal.returns-clause-asked
returns-clause-asked c =
    asked-done c.args.self.now.contents (grind arith) (heap-shown c.self.invariant c.free.ensures.rest c.free.ensures.laid_out
    c.args.self.now (freed c.args.pid.0 c.args.block c.args.self.now.contents.heap) c.self.view_is (grind arith))
