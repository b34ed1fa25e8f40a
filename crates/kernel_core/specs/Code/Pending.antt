-- The entries that are still to be shown.
use Rattle.std.specs.Prelude.{ℕ, List, [], ◌∷◌, ◌++◌, length, Option, Some, None}
use Rattle.mote_types.specs.declared.entry.Entry.{Entry}
use Rattle.mote_types.specs.declared.entry.Input.{Input}
use Rattle.mote_types.specs.declared.entry.Note.{Note}
use Rattle.process_core.specs.Agenda.{Item}
use Rattle.kernel_core.specs.declared.pending_entries.WaitingInput.{WaitingInput}

pub record Pending : Type 0 where
  pub input : Option Input
  pub note : Option Note

abbrev pub no_pending_entries : Pending
no_pending_entries = record { input = None; note = None }

abbrev pub input_items : Option Input → List Item
input_items None = []
input_items (Some input) = Item.Show (Entry.Input input) ∷ []

abbrev pub note_items : Option Note → List Item
note_items None = []
note_items (Some note) = Item.Show (Entry.Note note) ∷ []

-- the input is first
abbrev pub pending_items : Pending → List Item
pending_items u = input_items u.input ++ note_items u.note

abbrev pub pending_count : Pending → ℕ
pending_count u = length (pending_items u)

-- an input that waits, whose bytes, if it has any, are these
abbrev pub waiting_input : WaitingInput → List ℕ → Input
waiting_input (WaitingInput.Tick n) bytes = Input.Tick n
waiting_input WaitingInput.Serial bytes = Input.Serial (record { items = bytes })
waiting_input WaitingInput.Frame bytes = Input.Frame (record { items = bytes })

abbrev pub waiting_inputs : Option WaitingInput → List ℕ → Option Input
waiting_inputs None bytes = None
waiting_inputs (Some input) bytes = Some (waiting_input input bytes)
