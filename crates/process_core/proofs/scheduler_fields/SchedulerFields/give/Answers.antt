use Rattle.process_core.proofs.Lemmas.{told_apart}
use Rattle.process_core.proofs.scheduler_fields.SchedulerFields.give.Goals as goal

pub returns-clause-finds : goal.returns-clause-finds
returns-clause-finds c =
    rw (told_apart c.args.origin _ c.args.stimulus.now c.requires.apart) at (c.give_application.ensures.finds c.args.stimulus.now)
