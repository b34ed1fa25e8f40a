-- What a step of the code's scheduler finds.
use Rattle.std.specs.Prelude.{ℕ, ◌≡◌, Option, option_map}
use Rattle.mote_types.specs.declared.event.Stimulus.{Stimulus}
use Rattle.process_core.specs.declared.next_job.NextJob.{NextJob}
use Rattle.process_core.specs.declared.scheduler_fields.SchedulerFields.{SchedulerFields}
use Rattle.process_core.specs.Scheduler.{Scheduler}
use Rattle.process_core.specs.Code.SchedulerView.{job_in}
use Rattle.process_core.specs.Code.SchedulerFields.{scheduler_behind, front_after, kept_in, HoldsEvent, IsInOrder}
use Rattle.process_core.specs.Code.Yields.{Yields}

-- from s on, items are processed up to this job, or some that are no jobs; then the caller's buffer and the fields are these
pub record FindsJob (s : Scheduler ℕ) (ready : Option NextJob) (buffer : Stimulus) (after : SchedulerFields) : Type 0 where
  pub yields : Yields s (option_map (λ r. job_in r (kept_in after) buffer) ready) (scheduler_behind after)
  pub holds : HoldsEvent ready (kept_in after) buffer
  pub front : after.front ≡ front_after ready
  pub order : IsInOrder after
