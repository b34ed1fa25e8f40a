use Rattle.kernel_core.proofs.Standing.{closed_in_order, open_in_turn, order_from_closed, stands_after}
use Rattle.kernel_core.proofs.running_kernel.RunningKernel.next_turn.Goals as goal

pub next_turn-requires : goal.next_turn-requires
next_turn-requires c =
    record { order = order_from_closed c.self.inside.fields c.self.invariant (rw (← c.self.view_is) at c.requires.closed) }

pub invariant_of-self : goal.invariant_of-self
invariant_of-self c = stands_after c.next_turn.new.self _ _ c.next_turn.ensures

pub returns-clause-opens : goal.returns-clause-opens
returns-clause-opens c = λ is. open_in_turn c.next_turn.new.self _ (c.next_turn.ensures.opens is)

pub returns-clause-closed : goal.returns-clause-closed
returns-clause-closed c = λ no. closed_in_order c.next_turn.new.self (c.next_turn.ensures.worked.order no)

pub returns-clause-awaits : goal.returns-clause-awaits
returns-clause-awaits c = λ is choices. rw (← c.self.view_is) (c.next_turn.ensures.awaits is choices)

pub returns-clause-goes : goal.returns-clause-goes
returns-clause-goes c = λ no choices. rw (← c.self.view_is) (c.next_turn.ensures.goes no choices)
