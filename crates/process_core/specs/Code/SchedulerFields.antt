-- What the fields of the code's scheduler stand for, and their invariant.
use Rattle.std.specs.Prelude.{◌≡◌, ℕ, ◌+◌, ◌<◌, ◌≤◌, Bool, true, false, List, [], map, Option, Some, None, reverse}
use Rattle.mote_types.specs.declared.event.Pid.{Pid}
use Rattle.process_core.specs.declared.front.Front.{Front}
use Rattle.process_core.specs.declared.open_work.Base.{Base}
use Rattle.process_core.specs.declared.open_work.Continuation.{Continuation}
use Rattle.process_core.specs.declared.scheduler_fields.SchedulerFields.{SchedulerFields}
use Rattle.process_core.specs.declared.queued.Queued as code
use Rattle.mote_types.specs.declared.event.Stimulus.{Stimulus}
use Rattle.process_core.specs.declared.next_job.NextJob as answer
use Rattle.process_core.specs.Agenda.{Queued}
use Rattle.process_core.specs.Scheduler.{Scheduler, in_front}
use Rattle.process_core.specs.Code.SchedulerView.{Kept, SchedulerView}
use Rattle.process_core.specs.Code.OpenWork.{front_items, behind_front}
use Rattle.process_core.specs.Code.Nesting.{is_one_of, IsSound}

abbrev pub queued_of : code.Queued → Queued ℕ
queued_of (code.Queued.To pid event) = Queued.To pid.0 event
queued_of (code.Queued.ToAll event) = Queued.ToAll event
queued_of (code.Queued.Expiry pid number arming) = Queued.Expiry pid.0 number arming

-- the process whose call is awaited
abbrev pub turn_in : Front → Option Pid
turn_in (Front.Call pid) = Some pid
turn_in _ = None

-- the process that is at turn, or gets a reply next
abbrev pub active_in : Front → Option Pid
active_in (Front.Call pid) = Some pid
active_in (Front.Answer pid) = Some pid
active_in _ = None

-- the callback timer whose expiry may count
abbrev pub callback_in : Front → Option (Pid × ℕ)
callback_in (Front.Expiry pid number) = Some (pid, number)
callback_in _ = None

-- what is awaited after a job, if there is one
abbrev pub front_after : Option answer.NextJob → Front
front_after (Some (answer.NextJob.TakeTurn pid origin)) = Front.Call pid
front_after (Some (answer.NextJob.CallBack pid number arming)) = Front.Expiry pid number
front_after _ = Front.Nothing

-- the job that is in the field `ready`, where one was found
abbrev pub found : Bool → answer.NextJob → Option answer.NextJob
found true ready = Some ready
found false ready = None

abbrev pub kept_in : SchedulerFields → Kept
kept_in d = record { reply = d.reply; event = d.broadcast }

abbrev pub is_event : Stimulus → Bool
is_event (Stimulus.Event event) = true
is_event _ = false

-- a kernel process that must be served gets an event
abbrev pub HoldsEvent : Option answer.NextJob → Kept → Stimulus → Type 0
HoldsEvent (Some (answer.NextJob.Serve pid)) kept other = is_event other ≡ true
HoldsEvent (Some (answer.NextJob.Hear pid)) kept other = is_event kept.event ≡ true
HoldsEvent _ kept other = Unit {0}

-- no process is within an activation, and no poll round is going on: this is all that is open
pub record IsBare (d : SchedulerFields) (left : Base) : Type 0 where
  pub base : d.base ≡ left
  pub stack : d.stack.items ≡ []
  pub polls : d.polls ≡ []

-- the scheduler after the front, with these continuations as the stack, the topmost continuation first
abbrev pub scheduler_over : SchedulerFields → List Continuation → Scheduler ℕ
scheduler_over d stack =
    record {
      applications = d.applications;
      processes = d.processes;
      events = map queued_of d.events.items;
      agenda = behind_front d stack;
      next_event = d.next_event;
    }

abbrev pub scheduler_behind : SchedulerFields → Scheduler ℕ
scheduler_behind d = scheduler_over d (reverse d.stack.items)

abbrev pub scheduler_of : SchedulerFields → Scheduler ℕ
scheduler_of d = in_front (front_items d.front d.reply d.synch) (scheduler_behind d)

abbrev pub view_of : SchedulerFields → SchedulerView
view_of d = record { state = scheduler_of d; turn = turn_in d.front; callback = callback_in d.front; kept = kept_in d }

-- a process that a caller starts is one of the mote's
abbrev pub StartsKnown : ℕ → Front → Type 0
StartsKnown applications (Front.Start p) = p.0 < 4 + applications
StartsKnown applications _ = Unit {0}

-- and so is each that boot starts
abbrev pub BootsKnown : ℕ → Base → List ℕ → Type 0
BootsKnown applications Base.Boot walk = (p : ℕ) → is_one_of p walk ≡ true → p < 4 + applications
BootsKnown applications _ walk = Unit {0}

-- the fields fit together, with these continuations as the stack
pub record IsOrdered (d : SchedulerFields) (stack : List Continuation) : Type 0 where
  pub sound : IsSound d.applications d.processes stack (active_in d.front)
  pub starts : StartsKnown d.applications d.front
  pub boots : BootsKnown d.applications d.base d.walk
  pub room : d.events.capacity ≡ 32
  pub few : d.applications ≤ 16
  pub numbers : d.next_event ≤ 256
  pub event : is_event d.broadcast ≡ true

abbrev pub IsInOrder : SchedulerFields → Type 0
IsInOrder d = IsOrdered d (reverse d.stack.items)
