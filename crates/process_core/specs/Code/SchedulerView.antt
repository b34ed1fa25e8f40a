-- What contracts see of the code's scheduler.
use Rattle.std.specs.Prelude.{ℕ, Bool, true, false, not, ◌&&◌, is_some, Option, Some, None}
use Rattle.mote_types.specs.Codes.{plain_event}
use Rattle.mote_types.specs.declared.event.Origin.{Origin}
use Rattle.mote_types.specs.declared.event.Pid.{Pid}
use Rattle.mote_types.specs.declared.event.Stimulus.{Stimulus}
use Rattle.mote_types.specs.declared.reply.Reply.{Reply}
use Rattle.process_core.specs.declared.next_job.NextJob as answer
use Rattle.process_core.specs.Agenda.{Job}
use Rattle.process_core.specs.Scheduler.{Scheduler}
use Rattle.process_core.specs.Idle.{is_idle}

-- the stimuli that are stored in the scheduler
pub record Kept : Type 0 where
  -- the last reply
  pub reply : Stimulus
  -- the event that left the queue last
  pub event : Stimulus

abbrev pub kept_at_boot : Kept
kept_at_boot = record { reply = Stimulus.Answer Reply.Done; event = Stimulus.Event (plain_event 0) }

-- what a process receives: a reply, an event of the queue, or what is in the caller's buffer
abbrev pub told : Origin → Kept → Stimulus → Stimulus
told Origin.Answer kept other = kept.reply
told Origin.Event kept other = kept.event
told Origin.Synch kept other = other
told Origin.Poll kept other = other
told Origin.Callback kept other = other

-- whether it is in the caller's buffer
abbrev pub is_apart : Origin → Bool
is_apart Origin.Answer = false
is_apart Origin.Event = false
is_apart Origin.Synch = true
is_apart Origin.Poll = true
is_apart Origin.Callback = true

-- the scheduler, and what `next_to` has just asked of the layer above
pub record SchedulerView : Type 0 where
  -- an expiry of a callback timer carries its arming number
  pub state : Scheduler ℕ
  -- the process whose turn it is: `next_to` gave it a stimulus, and its call isn't in yet
  pub turn : Option Pid
  -- the callback timer whose expiry `next_to` has just returned
  pub callback : Option (Pid × ℕ)
  pub kept : Kept

-- a scheduler that awaits nothing
abbrev pub awaiting_nothing : Scheduler ℕ → Kept → SchedulerView
awaiting_nothing s kept = record { state = s; turn = None; callback = None; kept = kept }

-- no call is awaited, and nothing is left to be done
abbrev pub is_at_rest : SchedulerView → Bool
is_at_rest view = not (is_some view.turn) && is_idle view.state

-- a kernel process gets the event in the buffer, which holds one wherever Serve is returned
abbrev pub served : Pid → Stimulus → Job ℕ
served pid (Stimulus.Event event) = Job.Serve pid.0 event
served pid _ = Job.Rest

-- the job of the agenda that a result and the caller's buffer stand for
abbrev pub job_of : answer.NextJob → Stimulus → Job ℕ
job_of (answer.NextJob.TakeTurn pid origin) stimulus = Job.TakeTurn pid.0 origin stimulus
job_of (answer.NextJob.Serve pid) stimulus = served pid stimulus
job_of (answer.NextJob.Hear pid) stimulus = served pid stimulus
job_of (answer.NextJob.CallBack pid number arming) stimulus = Job.CallBack pid.0 number arming
job_of answer.NextJob.Round stimulus = Job.Round
job_of answer.NextJob.Rest stimulus = Job.Rest

-- the stimulus or the event of a result, which is in the scheduler or in the caller's buffer
abbrev pub told_with : answer.NextJob → Kept → Stimulus → Stimulus
told_with (answer.NextJob.TakeTurn pid origin) kept other = told origin kept other
told_with (answer.NextJob.Hear pid) kept other = kept.event
told_with _ kept other = other

-- the job of the agenda that a result stands for, with what is in the scheduler and in the caller's buffer
abbrev pub job_in : answer.NextJob → Kept → Stimulus → Job ℕ
job_in ready kept other = job_of ready (told_with ready kept other)

-- whose turn it is after this job
abbrev pub turn_of : answer.NextJob → Option Pid
turn_of (answer.NextJob.TakeTurn pid origin) = Some pid
turn_of _ = None

-- the callback timer whose expiry this job is
abbrev pub callback_of : answer.NextJob → Option (Pid × ℕ)
callback_of (answer.NextJob.CallBack pid number arming) = Some (pid, number)
callback_of _ = None
