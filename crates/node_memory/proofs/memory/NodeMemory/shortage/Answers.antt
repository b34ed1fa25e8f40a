use Rattle.std.proofs.Common.{arith}
use Rattle.node_memory.proofs.memory.NodeMemory.shortage.Goals as goal

pub returns : goal.returns
returns c = grind (arith, c.shortage.ensures c.self.inside.arena.bytes)
