use Rattle.kernel_core.proofs.running_kernel.RunningKernel.accept_idle_tick.Goals as goal

pub returns-clause-machine : goal.returns-clause-machine
returns-clause-machine c = λ done. λ choices. rw (← c.self.view_is) (c.accept_idle_tick.ensures.passed done choices)
