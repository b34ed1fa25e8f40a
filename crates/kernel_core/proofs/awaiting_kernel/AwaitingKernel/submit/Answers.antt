use Rattle.kernel_core.proofs.awaiting_kernel.AwaitingKernel.submit.Goals as goal

pub returns-clause-machine : goal.returns-clause-machine
returns-clause-machine c = rw (← c.self.view_is) (rw c.deref_mut.ensures.value at c.execute_or_wait.ensures.machine)
