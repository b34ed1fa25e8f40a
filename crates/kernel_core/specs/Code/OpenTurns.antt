-- A kernel within a turn: an application received a stimulus, and its call is awaited.
use Rattle.std.specs.Prelude.{◌≡◌, ◌≢◌, ◌≤◌, ◌<◌, ◌+◌, ◌*◌, ◌^◌, ◌||◌, ℕ, [], false, Option, None, Some, if◌then◌else◌}
use Rattle.std.specs.List.{list_any}
use Rattle.mote_types.specs.Entries.{is_halt}
use Rattle.mote_types.specs.declared.entry.Entry.{Entry}
use Rattle.mote_types.specs.declared.event.Stimulus.{Stimulus}
use Rattle.mote_types.specs.declared.event.Origin.{Origin}
use Rattle.mote_types.specs.declared.event.Pid.{Pid}
use Rattle.node_memory.specs.Code.Placed.{last_owner}
use Rattle.process_core.specs.Code.SchedulerView.{Kept, told}
use Rattle.kernel_core.specs.declared.kernel_fields.KernelFields.{KernelFields}
use Rattle.kernel_core.specs.declared.step.StepOutcome.{StepOutcome}
use Rattle.kernel_core.specs.declared.turn.Turn.{Turn}
use Rattle.kernel_core.specs.Code.Conditions.{TakesEntry}
use Rattle.kernel_core.specs.Machine.{Machine}
use Rattle.kernel_core.specs.Calls.{after_call}
use Rattle.kernel_core.specs.Mote.{Mote}
use Rattle.kernel_core.specs.Run.{Choices, heard, work_limit}
use Rattle.kernel_core.specs.Code.Draws.{drawn_in_all}
use Rattle.kernel_core.specs.Code.Steps.{GoesOn, MakesEntry, made, stepped}
use Rattle.kernel_core.specs.Code.View.{IsAtTurn, IsInOrder, entries_left_in, machine_of, mote_of}

-- from old the machine reaches a turn, whatever its call: once the call is executed on new, the turn is made
abbrev pub AwaitsCall : Choices → Machine → Pid → Origin → Stimulus → Machine → Type 0
AwaitsCall choices old pid origin stimulus new =
    MakesEntry choices old (Entry.Turn pid origin stimulus (choices pid.0 stimulus)) (after_call (choices pid.0 stimulus) pid.0 new)

-- the turn is the application's, and the rest is in order
pub record IsMidTurn (pid : Pid) (k : KernelFields) : Type 0 where
  pub at_turn : IsAtTurn pid k
  pub application : pid.0 < 4 + k.scheduler.state.applications
  pub running : k.halted ≡ false
  pub work : k.work ≤ work_limit
  pub few : k.applications ≤ 16
  pub inputs : k.inputs ≤ 2 ^ 40
  pub owners : 3 + k.applications ≤ last_owner k.memory.value
  -- the call draws four numbers at most
  pub draws : drawn_in_all k + 4 ≤ 1 + 8 * (10000 * k.inputs + k.work)

-- the kernel has worked until a turn began, an entry was made, or there was rest; `before` was in the buffer of that entry
pub record HasWorked (outcome : StepOutcome) (turn : Turn) (before other : Entry) (old new : KernelFields) : Type 0 where
  -- a turn makes two entries at most
  pub room : outcome ≡ StepOutcome.Turn → entries_left_in new + 2 ≤ entries_left_in old
  -- unless a turn began, nobody received anything
  pub untold : outcome ≢ StepOutcome.Turn → (p : ℕ) → heard p (made (stepped outcome turn other)) ≡ []
  pub order : outcome ≢ StepOutcome.Turn → IsInOrder new
  pub halted : new.halted ≡ (old.halted || list_any is_halt (made (stepped outcome turn other)))
  pub clock : new.clock ≡ old.clock
  pub applications : new.scheduler.state.applications ≡ old.scheduler.state.applications
  pub inputs : new.inputs ≡ old.inputs
  pub progress : TakesEntry (stepped outcome turn other) (mote_of old) (mote_of new)
  pub unmade : outcome ≢ StepOutcome.Other → other ≡ before

-- likewise, and the machine has come as far: to a turn whose call is awaited, to the entry or to rest
pub record WorksUpTo (outcome : StepOutcome) (turn : Turn) (before other : Entry) (old new : KernelFields) : Type 0 where
  pub awaits : outcome ≡ StepOutcome.Turn → (choices : Choices)
      → AwaitsCall choices (machine_of old) turn.pid turn.origin turn.stimulus (machine_of new)
  pub opens : outcome ≡ StepOutcome.Turn → IsMidTurn turn.pid new
  pub goes : outcome ≢ StepOutcome.Turn → (choices : Choices)
      → GoesOn choices (machine_of old) (stepped outcome turn other) (machine_of new)
  pub worked : HasWorked outcome turn before other old new

-- the turn, with what the application receives
abbrev pub told_turn : Kept → Turn → Turn
told_turn kept turn = record turn { stimulus = told turn.origin kept turn.stimulus }

-- what contracts see of a kernel that awaits the call of each turn
pub record AwaitingMote : Type 0 where
  pub mote : Mote
  -- the application whose call is awaited
  pub turn : Option Pid

abbrev pub awaiting_mote_of : Option Pid → KernelFields → AwaitingMote
awaiting_mote_of turn k = record { mote = mote_of k; turn = turn }

-- the fields are in order, in a turn or between two
abbrev pub StandsWell : Option Pid → KernelFields → Type 0
StandsWell None k = IsInOrder k
StandsWell (Some pid) k = IsMidTurn pid k

-- what contracts see of a kernel that is in a turn or between two
pub record WorkingMote : Type 0 where
  pub machine : Machine
  pub inputs : ℕ
  pub entries_left : ℕ
  -- the application that takes a turn
  pub turn : Option Pid
  pub kept : Kept

-- after Halt nobody takes a turn
abbrev pub open_turn : KernelFields → Option Pid
open_turn k = if k.halted then None else k.scheduler.turn

abbrev pub working_mote_of : KernelFields → WorkingMote
working_mote_of k =
    record {
      machine = machine_of k;
      inputs = k.inputs;
      entries_left = entries_left_in k;
      turn = open_turn k;
      kept = k.scheduler.kept;
    }

abbrev pub mote_in : WorkingMote → Mote
mote_in r = record { machine = r.machine; inputs = r.inputs; entries_left = r.entries_left }
