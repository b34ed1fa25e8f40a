-- The scheduler with another payload of expiries: an arming number in the code, and in the machine whether it is cancelled.
use Rattle.std.specs.Prelude.{ℕ, map}
use Rattle.process_core.specs.Agenda.{Queued, Job}
use Rattle.process_core.specs.Scheduler.{Scheduler}

abbrev pub event_carrying : {X Y : Type 0} → (ℕ → ℕ → X → Y) → Queued X → Queued Y
event_carrying f (Queued.To p event) = Queued.To p event
event_carrying f (Queued.ToAll event) = Queued.ToAll event
event_carrying f (Queued.Expiry p c x) = Queued.Expiry p c (f p c x)

abbrev pub job_carrying : {X Y : Type 0} → (ℕ → ℕ → X → Y) → Job X → Job Y
job_carrying f (Job.TakeTurn p origin stimulus) = Job.TakeTurn p origin stimulus
job_carrying f (Job.Serve p event) = Job.Serve p event
job_carrying f (Job.CallBack p c x) = Job.CallBack p c (f p c x)
job_carrying f (Job.ShowEntry entry) = Job.ShowEntry entry
job_carrying f Job.Round = Job.Round
job_carrying f Job.Rest = Job.Rest

-- the same scheduler with another payload of expiries
abbrev pub carrying : {X Y : Type 0} → (ℕ → ℕ → X → Y) → Scheduler X → Scheduler Y
carrying f s =
    record {
      applications = s.applications;
      processes = s.processes;
      events = map (event_carrying f) s.events;
      agenda = s.agenda;
      next_event = s.next_event;
    }
