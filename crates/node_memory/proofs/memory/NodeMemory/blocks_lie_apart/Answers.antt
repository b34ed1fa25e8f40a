use Rattle.node_memory.proofs.Apart.{PoolApart, of-four, all-apart}
use Rattle.node_memory.proofs.LaidOut.{layout_of}
use Rattle.node_memory.specs.Code.Separation.{BlocksLieApart}
use Rattle.std.proofs.Common.{subst}
use Rattle.node_memory.proofs.memory.NodeMemory.blocks_lie_apart.Goals as goal

pub returns : goal.returns
returns c =
    subst BlocksLieApart c.self.view_is
    (all-apart (layout_of c.self.inside.mmem c.self.inside.heap c.self.inside.pools c.self.inside.arena.bytes) c.self.invariant
    (c.blocks_lie_apart.ensures c.self.inside.arena.bytes c.self.invariant.managed)
    (of-four PoolApart c.self.inside.pools c.index-self-0.result c.index-self-1.result c.index-self-2.result c.index-self-3.result
    c.self.invariant.count
    c.blocks_lie_apart-2.ensures c.blocks_lie_apart-3.ensures c.blocks_lie_apart-4.ensures c.blocks_lie_apart-5.ensures))
