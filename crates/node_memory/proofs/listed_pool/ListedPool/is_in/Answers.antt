use Rattle.node_memory.proofs.LaidOut.{is_holder-is}
use Rattle.std.proofs.Common.{◌∙◌}
use Rattle.node_memory.proofs.listed_pool.ListedPool.is_in.Goals as goal

pub returns : goal.returns
returns c =
    c.is_holder.ensures ∙ (rw c.list_of.ensures
    (is_holder-is c.args.list c.args.block c.args.self.now.lists c.args.self.now.pool c.args.arena.now.bytes c.requires))
