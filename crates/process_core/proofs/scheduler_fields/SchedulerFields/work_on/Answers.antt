use Rattle.process_core.proofs.Lemmas.{finds_after}
use Rattle.process_core.proofs.scheduler_fields.SchedulerFields.work_on.Goals as goal

pub open-preserved : goal.open-preserved
open-preserved c = finds_after c.open.invariant c.in_default.ensures.finds

pub returns : goal.returns
returns c = finds_after c.open.invariant c.in-Some.ensures.finds
