use Rattle.node_memory.proofs.LaidOut.{after-managed, managed-shown}
use Rattle.node_memory.proofs.Others.{leaves-block}
use Rattle.std.proofs.Common.{rules, arith}
use Rattle.mmem_core.specs.ManagedStore.{freed}
use Rattle.node_memory.proofs.memory.NodeMemory.mmem_free.Goals as goal

pub invariant_of-self : goal.invariant_of-self
invariant_of-self c = after-managed c.self.invariant c.free.ensures.rest _ _ c.free.ensures.block

pub returns-clause-accepted : goal.returns-clause-accepted
returns-clause-accepted c = (
  search rules,
  managed-shown c.self.invariant c.free.ensures.rest (freed c.args.pid.0 c.args.handle) c.free.ensures.block
      c.args.self.now c.self.view_is,
)

pub returns-clause-others : goal.returns-clause-others
returns-clause-others c =
    rw (managed-shown c.self.invariant c.free.ensures.rest (freed c.args.pid.0 c.args.handle) c.free.ensures.block
    c.args.self.now c.self.view_is)
    (grind (arith, leaves-block))
