-- The buffers of a session, and what they stand for.
use Rattle.std.specs.Prelude.{◌≡◌, Bool, true, false, Option, None, Some}
use Rattle.mote_types.specs.declared.entry.Entry.{Entry}
use Rattle.mote_types.specs.declared.event.Pid.{Pid}
use Rattle.kernel_core.specs.declared.turn.Turn.{Turn}
use Rattle.kernel_core.specs.Code.OpenTurns.{AwaitingMote}
use Rattle.kernel_core.specs.Code.Steps.{entry_of}
use Rattle.mote_session.specs.SessionView.{AwaitedCall, SessionView}
use Rattle.mote_session.specs.declared.last_entry.LastEntry.{LastEntry}

-- the one buffer or the other
abbrev pub turn_in : Bool → Turn → Turn → Turn
turn_in true odd even = odd
turn_in false odd even = even

-- the turn in the buffer, where its call is awaited
abbrev pub awaited_in : Option Pid → Turn → Option AwaitedCall
awaited_in None turn = None
awaited_in (Some pid) turn = Some (record { process = pid; origin = turn.origin; stimulus = turn.stimulus })

-- the last entry, if it is a turn that was taken or another entry
abbrev pub entry_in : LastEntry → Turn → Entry → Option Entry
entry_in LastEntry.Missing taken other = None
entry_in LastEntry.Turn taken other = Some (entry_of taken)
entry_in LastEntry.Other taken other = Some other

-- by the buffer that the kernel works in, that of the last turn that was taken, and that of other entries
abbrev pub session_view : AwaitingMote → Turn → Turn → Entry → LastEntry → SessionView
session_view kernel turn taken other last =
    record {
      machine = kernel.mote.machine;
      inputs = kernel.mote.inputs;
      entries_left = kernel.mote.entries_left;
      turn = awaited_in kernel.turn turn;
      last = entry_in last taken other;
    }

-- a turn that awaits its call is in its buffer, and is no entry yet
abbrev pub AreInPlace : Option Pid → Turn → LastEntry → Type 0
AreInPlace None turn last = Unit {0}
AreInPlace (Some pid) turn last = (turn.pid ≡ pid) × (last ≡ LastEntry.Missing)
