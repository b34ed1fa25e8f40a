use Rattle.node_memory.proofs.LaidOut.{after-managed, managed-shown}
use Rattle.node_memory.proofs.Others.{leaves-block}
use Rattle.std.proofs.Common.{rules, arith}
use Rattle.mmem_core.specs.ManagedStore.{with_bytes}
use Rattle.node_memory.proofs.memory.NodeMemory.mmem_write.Goals as goal

pub invariant_of-self : goal.invariant_of-self
invariant_of-self c = after-managed c.self.invariant c.write.ensures.rest _ _ c.write.ensures.block

pub returns-clause-accepted : goal.returns-clause-accepted
returns-clause-accepted c = (
  search rules,
  managed-shown c.self.invariant c.write.ensures.rest (with_bytes c.args.pid.0 c.args.handle c.args.at c.args.bytes.now)
      c.write.ensures.block c.args.self.now c.self.view_is,
)

pub returns-clause-others : goal.returns-clause-others
returns-clause-others c =
    rw (managed-shown c.self.invariant c.write.ensures.rest (with_bytes c.args.pid.0 c.args.handle c.args.at c.args.bytes.now)
    c.write.ensures.block
    c.args.self.now c.self.view_is)
    (grind (arith, leaves-block))
