use Rattle.kernel_core.proofs.kernel.Kernel.accept.Goals as goal

pub returns-clause-machine : goal.returns-clause-machine
returns-clause-machine c = λ choices. rw (← c.self.view_is) (c.accept.ensures.machine choices)
