use Rattle.mote_types.specs.Bytes.{zeros}
use Rattle.node_memory.proofs.LaidOut.{after-managed, managed-shown}
use Rattle.node_memory.proofs.Others.{leaves-block}
use Rattle.std.proofs.Common.{rules, arith, Some}
use Rattle.mote_types.specs.BlockNames.{number_of}
use Rattle.mmem_core.specs.ManagedStore.{allocated}
use Rattle.node_memory.proofs.memory.NodeMemory.mmem_alloc.Goals as goal

pub invariant_of-self : goal.invariant_of-self
invariant_of-self c = grind arith

pub invariant_of-self-2 : goal.invariant_of-self-2
invariant_of-self-2 c =
    after-managed c.self.invariant c.alloc.ensures.rest (number_of c.args.pid.0 c.args.handle) (Some (zeros c.args.n)) (search rules)

pub returns-clause-accepted : goal.returns-clause-accepted
returns-clause-accepted c = (
  search rules,
  managed-shown c.self.invariant c.alloc.ensures.rest (allocated c.args.pid.0 c.args.handle c.args.n) (search rules) c.args.self.now
      c.self.view_is,
)

pub returns-then-is_none-clause-refused : goal.returns-then-is_none-clause-refused
returns-then-is_none-clause-refused c = grind (arith, c.shortage.ensures c.self.inside.arena.bytes)

pub returns-clause-others : goal.returns-clause-others
returns-clause-others c =
    rw (managed-shown c.self.invariant c.alloc.ensures.rest (allocated c.args.pid.0 c.args.handle c.args.n) (search rules)
    c.args.self.now c.self.view_is)
    (grind (arith, leaves-block))
