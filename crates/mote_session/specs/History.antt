-- What a session was fed and what it made, from its boot on.
use Rattle.std.specs.Prelude.{List, [], ◌∷◌, ◌++◌, Option, None, Some}
use Rattle.mote_types.specs.declared.call.Call.{Call}
use Rattle.mote_types.specs.declared.entry.Entry.{Entry}
use Rattle.mote_types.specs.declared.entry.Input.{Input}
use Rattle.kernel_core.specs.declared.config.Config.{Config}
use Rattle.mote_session.specs.SessionView.{AwaitedCall}

pub record History : Type 0 where
  pub config : Config
  pub inputs : List Input
  pub entries : List Entry

abbrev pub at_boot : Config → History
at_boot config = record { config = config; inputs = []; entries = [] }

abbrev pub with_input : Input → History → History
with_input input history = record history { inputs = history.inputs ++ input ∷ [] }

abbrev pub with_entry : Entry → History → History
with_entry entry history = record history { entries = history.entries ++ entry ∷ [] }

-- the input that a line says, if it says one
abbrev pub with_said : Option (Option Input) → History → History
with_said (Some (Some input)) history = with_input input history
with_said _ history = history

-- the turn that awaited this call
abbrev pub with_call : Option AwaitedCall → Call → History → History
with_call (Some turn) call history = with_entry (Entry.Turn turn.process turn.origin turn.stimulus call) history
with_call None call history = history

-- the entry that was made last
abbrev pub last_entry : List Entry → Option Entry
last_entry [] = None
last_entry (entry ∷ []) = Some entry
last_entry (entry ∷ next ∷ entries) = last_entry (next ∷ entries)
