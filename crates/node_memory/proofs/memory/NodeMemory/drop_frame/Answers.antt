use Rattle.node_memory.proofs.LaidOut.{after-managed, managed-shown, frame-is}
use Rattle.node_memory.proofs.Others.{leaves-frame}
use Rattle.std.proofs.Common.{arith, None}
use Rattle.mmem_core.specs.ManagedStore.{freed}
use Rattle.node_memory.proofs.memory.NodeMemory.drop_frame.Goals as goal

pub invariant_of-self : goal.invariant_of-self
invariant_of-self c = after-managed c.self.invariant c.free.ensures.rest _ _ c.free.ensures.block

pub returns-clause-dropped : goal.returns-clause-dropped
returns-clause-dropped c =
    managed-shown c.self.invariant c.free.ensures.rest (freed 3 c.args.slot) c.free.ensures.block c.args.self.now c.self.view_is

pub returns-clause-gone : goal.returns-clause-gone
returns-clause-gone c = frame-is c.self.invariant c.free.ensures.rest c.args.slot None c.requires.slot c.free.ensures.block

pub returns-clause-others : goal.returns-clause-others
returns-clause-others c =
    let dropped = managed-shown c.self.invariant c.free.ensures.rest (freed 3 c.args.slot) c.free.ensures.block c.args.self.now
    c.self.view_is in
    grind (arith, leaves-frame)
