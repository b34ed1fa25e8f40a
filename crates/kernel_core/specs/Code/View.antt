-- What the fields of a kernel stand for.
use Rattle.std.specs.Prelude.{◌≡◌, ℕ, ◌+◌, ◌*◌, ◌-◌, ◌≤◌, ◌<◌, ◌^◌, ◌==◌, eqb, Bool, not, true, false, List, is_some, length, IfSome, None, Some, if◌then◌else◌}
use Rattle.std.specs.List.{list_any, IsDistinct}
use Rattle.mote_types.specs.declared.event.Pid.{Pid}
use Rattle.mote_types.specs.declared.reply.Reply.{Reply}
use Rattle.device_core.specs.declared.frame.Frame.{Frame}
use Rattle.node_memory.specs.Code.Conditions.{frame_in}
use Rattle.node_memory.specs.Memory.{Memory}
use Rattle.node_memory.specs.Code.Placed.{last_owner}
use Rattle.process_core.specs.Agenda.{Job}
use Rattle.process_core.specs.Code.Invariant.{IsWellFormed}
use Rattle.process_core.specs.Code.SchedulerView.{turn_of, callback_of}
use Rattle.process_core.specs.Code.Conditions.{IsApplication}
use Rattle.process_core.specs.declared.next_job.NextJob.{NextJob as Taken}
use Rattle.kernel_core.specs.Code.Carrying.{job_carrying, carrying}
use Rattle.process_core.specs.Processes.{numbers}
use Rattle.process_core.specs.Scheduler.{in_front}
use Rattle.kernel_core.specs.declared.kernel_fields.KernelFields.{KernelFields}
use Rattle.kernel_core.specs.Code.Pending.{no_pending_entries, pending_items, pending_count}
use Rattle.kernel_core.specs.Machine.{Machine, answer}
use Rattle.kernel_core.specs.Run.{Choices, is_at_rest, one_step, job_done, work_limit}
use Rattle.kernel_core.specs.Code.Steps.{GoesSilently}
use Rattle.kernel_core.specs.Code.Cost.{costs, present}
use Rattle.kernel_core.specs.Mote.{Mote}
use Rattle.kernel_core.specs.Code.Draws.{HasQueueableEvents, drawn_in_all}
use Rattle.timer_core.specs.Code.Armings.{Armings, is_present_arming}

-- an expiry was cancelled where its arming number isn't the present one
abbrev pub is_cancelled : Armings → ℕ → ℕ → ℕ → Bool
is_cancelled armings p c arming = not (is_present_arming p c arming armings)

abbrev pub machine_of : KernelFields → Machine
machine_of k =
    record {
      clock = k.clock;
      work = k.work;
      is_halted = k.halted;
      scheduler = in_front (pending_items k.pending) (carrying (is_cancelled k.timers.value.armings) k.scheduler.state);
      timers = k.timers.value.timers;
      memory = k.memory.value.contents;
      serial = k.serial;
      is_serial_waiting = k.serial_waits;
      packets = k.packets;
    }

-- a turn or a round makes two entries at most
abbrev pub entries_left_in : KernelFields → ℕ
entries_left_in k = if k.halted then 0 else 1 + 2 * (work_limit - k.work) + pending_count k.pending

abbrev pub mote_of : KernelFields → Mote
mote_of k = record { machine = machine_of k; inputs = k.inputs; entries_left = entries_left_in k }

-- The frames and the memory fit together: a slot's block is live exactly where a held frame has the slot
pub record HoldsFrames (memory : Memory) (frames : List Frame) : Type 0 where
  pub live : (slot : ℕ) → slot < 8 → is_some (frame_in slot memory) ≡ list_any (λ frame. frame.slot == slot) frames

-- the fields are in order
pub record IsInOrder (k : KernelFields) : Type 0 where
  pub work : k.work ≤ work_limit
  pub applications : k.applications ≡ k.scheduler.state.applications
  pub few : k.applications ≤ 16
  pub idle : k.halted ≡ false → k.scheduler.turn ≡ None
  pub clock : k.clock ≤ 2 ^ 62
  pub inputs : k.inputs ≤ 2 ^ 40
  pub events : HasQueueableEvents k
  pub frames : HoldsFrames k.memory.value.contents k.packets.frames
  -- each application may have managed blocks
  pub owners : 3 + k.applications ≤ last_owner k.memory.value
  -- a turn draws a number, or ends a process whose callback timers then get four
  pub draws : drawn_in_all k ≤ 1 + 8 * (10000 * k.inputs + k.work)

-- at work between two turns, and all that was to be shown is shown
pub record IsAtWork (k : KernelFields) : Type 0 where
  pub order : IsInOrder k
  pub running : k.halted ≡ false
  pub shown : k.pending ≡ no_pending_entries

-- steps that make no entry have left the fields in order
pub record StepsSilently (old new : KernelFields) : Type 0 where
  pub passed : (choices : Choices) → GoesSilently choices (machine_of old) (machine_of new)
  pub order : IsInOrder new
  pub applications : new.scheduler.state.applications ≡ old.scheduler.state.applications

-- an application has the turn, and all that was to be shown is shown
pub record IsAtTurn (pid : Pid) (k : KernelFields) : Type 0 where
  pub turn : k.scheduler.turn ≡ Some pid
  pub shown : k.pending ≡ no_pending_entries
  pub first : 4 ≤ pid.0
  pub last : pid.0 ≤ 19
  pub owner : pid.0 ≤ last_owner k.memory.value
  pub applications : k.applications ≡ k.scheduler.state.applications
  pub clock : k.clock ≤ 2 ^ 62
  pub few : k.timers.value.armings.drawn < 2 ^ 60
  pub events : HasQueueableEvents k
  pub frames : HoldsFrames k.memory.value.contents k.packets.frames
  pub distinct : IsDistinct eqb (numbers k.scheduler.state.processes)

-- only the scheduler, the timers, the memory and the devices were changed
pub record IsOnlyWorked (old new : KernelFields) : Type 0 where
  pub clock : new.clock ≡ old.clock
  pub work : new.work ≡ old.work
  pub halted : new.halted ≡ old.halted
  pub inputs : new.inputs ≡ old.inputs
  pub applications : new.applications ≡ old.applications
  pub mote : new.scheduler.state.applications ≡ old.scheduler.state.applications

-- nor were the memory, the held frames, and the pending entries
pub record LeavesFrames (old new : KernelFields) : Type 0 where
  pub memory : new.memory ≡ old.memory
  pub frames : new.packets.frames ≡ old.packets.frames
  pub pending : new.pending ≡ old.pending

-- only the scheduler was changed
pub record IsOnlyScheduled (old new : KernelFields) : Type 0 where
  pub after_front : IsOnlyWorked old new
  pub left : LeavesFrames old new
  pub timers : new.timers ≡ old.timers

-- the application gets this reply in its next turn, and only the scheduler was changed
pub record IsAnswered (pid : Pid) (reply : Reply) (old new : KernelFields) : Type 0 where
  pub machine : machine_of new ≡ answer pid.0 reply (machine_of old)
  pub kept : IsOnlyScheduled old new
  pub turn : new.scheduler.turn ≡ None
  pub events : new.scheduler.state.events ≡ old.scheduler.state.events
  pub draws : drawn_in_all new ≡ drawn_in_all old

-- a call was executed that leaves memory and frames unchanged: it draws at most four numbers
pub record IsCallDone (old new : KernelFields) : Type 0 where
  pub after_front : IsOnlyWorked old new
  pub left : LeavesFrames old new
  pub turn : new.scheduler.turn ≡ None
  pub events : HasQueueableEvents new
  pub draws : drawn_in_all new ≤ drawn_in_all old + 4

-- a call was executed: it draws at most four numbers, and makes at most one note
pub record IsCarriedOut (old new : KernelFields) : Type 0 where
  pub after_front : IsOnlyWorked old new
  pub turn : new.scheduler.turn ≡ None
  pub events : HasQueueableEvents new
  pub draws : drawn_in_all new ≤ drawn_in_all old + 4
  pub frames : HoldsFrames new.memory.value.contents new.packets.frames
  pub owners : last_owner new.memory.value ≡ last_owner old.memory.value
  pub pending : pending_count new.pending ≤ 1

-- an input had its effect
pub record IsTakenIn (old new : KernelFields) : Type 0 where
  pub work : new.work ≡ old.work
  pub halted : new.halted ≡ old.halted
  pub inputs : new.inputs ≡ old.inputs
  pub applications : new.applications ≡ old.applications
  pub mote : new.scheduler.state.applications ≡ old.scheduler.state.applications
  pub timers : new.timers ≡ old.timers
  pub turn : new.scheduler.turn ≡ old.scheduler.turn
  pub events : new.scheduler.state.events ≡ old.scheduler.state.events
  pub agenda : new.scheduler.state.agenda ≡ old.scheduler.state.agenda
  pub frames : HoldsFrames new.memory.value.contents new.packets.frames
  pub owners : last_owner new.memory.value ≡ last_owner old.memory.value

-- what a kernel process did, which drew at most n numbers
pub record IsServed (most : ℕ) (old new : KernelFields) : Type 0 where
  pub after_front : IsOnlyWorked old new
  pub left : LeavesFrames old new
  pub turn : new.scheduler.turn ≡ old.scheduler.turn
  pub events : HasQueueableEvents new
  -- it works off nothing of the agenda
  pub agenda : new.scheduler.state.agenda ≡ old.scheduler.state.agenda
  pub present : present new.scheduler.state ≡ present old.scheduler.state
  pub draws : drawn_in_all new ≤ drawn_in_all old + most

-- a kernel process posted its next event, or had none to post: `work` is what the machine does then
pub record PostsOne (work : Machine → Machine) (is_posted : Bool) (old new : KernelFields) : Type 0 where
  pub machine : machine_of new ≡ work (machine_of old)
  pub nothing : is_posted ≡ false → machine_of new ≡ machine_of old
  pub posted : is_posted ≡ true → length new.scheduler.state.events ≡ length old.scheduler.state.events + 1
  pub kept : IsServed 0 old new

-- an expiry left the queue: where it counts, the callback is put on the agenda
pub record IsExpired (old new : KernelFields) : Type 0 where
  pub after_front : IsOnlyWorked old new
  pub left : LeavesFrames old new
  pub turn : new.scheduler.turn ≡ None
  pub events : HasQueueableEvents new
  pub draws : drawn_in_all new ≤ drawn_in_all old
  pub present : present new.scheduler.state ≡ present old.scheduler.state
  pub costs : (bound : ℕ) → costs bound new.scheduler.state.agenda ≤ costs bound old.scheduler.state.agenda + 2

-- items that are no jobs were processed, and then this job's own item
pub record ComesToJob (armings : Armings) (choices : Choices) (old : Machine) (next : Job ℕ) (new : Machine) : Type 0 where
  pub last : Machine
  pub before : GoesSilently choices old last
  pub asked : one_step choices last ≡ job_done choices (Some (job_carrying (is_cancelled armings) next)) new

-- a job was taken from the agenda, and only the scheduler changed
pub record HasTakenJob (taken : Taken) (old new : KernelFields) : Type 0 where
  pub turn : new.scheduler.turn ≡ turn_of taken
  pub active : IfSome new.scheduler.turn (λ p. IsApplication new.applications p.0)
  pub applications : new.scheduler.state.applications ≡ old.scheduler.state.applications
  pub rest : taken ≡ Taken.Rest → is_at_rest (machine_of new) ≡ true
  pub kept : new ≡ record old { scheduler = new.scheduler }
  pub callback : new.scheduler.callback ≡ callback_of taken
  pub standing : IsWellFormed new.scheduler.state
