use Rattle.kernel_core.proofs.Standing.{closed_in_order, stands_in_order}
use Rattle.kernel_core.proofs.running_kernel.RunningKernel.of.Goals as goal

pub invariant_of-result : goal.invariant_of-result
invariant_of-result c = stands_in_order c.kernel.inside.fields c.kernel.invariant

pub returns-clause-closed : goal.returns-clause-closed
returns-clause-closed c = closed_in_order c.kernel.inside.fields c.kernel.invariant
