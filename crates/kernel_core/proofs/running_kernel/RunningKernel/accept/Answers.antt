use Rattle.kernel_core.proofs.Standing.{closed_in_order, order_from_closed, stands_in_order}
use Rattle.kernel_core.proofs.running_kernel.RunningKernel.accept.Goals as goal

pub accept-requires-clause-order : goal.accept-requires-clause-order
accept-requires-clause-order c = order_from_closed c.self.inside.fields c.self.invariant (rw (← c.self.view_is) at c.requires.closed)

pub invariant_of-self : goal.invariant_of-self
invariant_of-self c = stands_in_order c.accept.new.self c.accept.ensures.order

pub returns-clause-closed : goal.returns-clause-closed
returns-clause-closed c = closed_in_order c.accept.new.self c.accept.ensures.order

pub returns-clause-machine : goal.returns-clause-machine
returns-clause-machine c = λ choices. rw (← c.self.view_is) (c.accept.ensures.machine choices)
