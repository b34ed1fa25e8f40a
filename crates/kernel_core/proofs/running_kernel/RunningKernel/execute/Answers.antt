use Rattle.kernel_core.proofs.Standing.{closed_in_order, stands_in_order, turn_from_open}
use Rattle.kernel_core.proofs.running_kernel.RunningKernel.execute.Goals as goal

pub execute_call-requires : goal.execute_call-requires
execute_call-requires c = record {
  «open» = turn_from_open c.self.inside.fields c.args.pid c.self.invariant (rw (← c.self.view_is) at c.requires.at_turn);
}

pub invariant_of-self : goal.invariant_of-self
invariant_of-self c = stands_in_order c.execute_call.new.self c.execute_call.ensures.order

pub returns-clause-closed : goal.returns-clause-closed
returns-clause-closed c = closed_in_order c.execute_call.new.self c.execute_call.ensures.order

pub returns-clause-machine : goal.returns-clause-machine
returns-clause-machine c = rw (← c.self.view_is) c.execute_call.ensures.machine
