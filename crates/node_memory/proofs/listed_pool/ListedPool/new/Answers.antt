use Rattle.memb_core.specs.declared.list_name.ListName.{ListName}
use Rattle.node_memory.proofs.LaidOut.{same-shown}
use Rattle.std.proofs.Common.{arith}
use Rattle.node_memory.proofs.listed_pool.ListedPool.new.Goals as goal

pub returns-clause-linked : goal.returns-clause-linked
returns-clause-linked c = grind arith

pub returns-clause-unused : goal.returns-clause-unused
returns-clause-unused c =
    let empty = c.new-2.ensures.empty c.new.result c.args.arena.now.bytes in
    same-shown (c.new.ensures.unused c.args.arena.now.bytes) (empty ListName.First) (empty ListName.Second)
