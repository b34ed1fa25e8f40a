use Rattle.kernel_core.proofs.kernel_fields.KernelFields.serve.Goals as goal

pub returns-in-Event-clause-kept : goal.returns-in-Event-clause-kept
returns-in-Event-clause-kept c = rw (← c.stimulus.ensures, c.in-Event.is) (c.serve_event.ensures.kept c.in-Event.event.payload)
