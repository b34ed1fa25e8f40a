use Rattle.process_core.proofs.Lemmas.{None, FindsJob, scheduler_behind}
use Rattle.process_core.specs.Code.Weights.{weight}
use Rattle.process_core.proofs.scheduler_fields.SchedulerFields.work_on.Given as goal

abbrev pub invariant-open : goal.invariant-open
invariant-open l = FindsJob (scheduler_behind l.fn.self) None l.stimulus l.self

abbrev pub decreases-open : goal.decreases-open
decreases-open l = weight l.self
