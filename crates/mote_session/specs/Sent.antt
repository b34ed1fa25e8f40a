-- The frame that an entry reports as sent.
use Rattle.std.specs.Prelude.{ℕ, Option, None, Some}
use Rattle.arrayvec.specs.ArrayVec.{ArrayVec}
use Rattle.mote_types.specs.declared.entry.Entry.{Entry}
use Rattle.mote_types.specs.declared.entry.Note.{Note}

abbrev pub sent_by_note : Note → Option (ArrayVec ℕ)
sent_by_note (Note.Sent bytes) = Some bytes
sent_by_note _ = None

-- only a note has one
abbrev pub sent_by_entry : Entry → Option (ArrayVec ℕ)
sent_by_entry (Entry.Note note) = sent_by_note note
sent_by_entry _ = None

-- of the last entry, if there is one
abbrev pub sent_in : Option Entry → Option (ArrayVec ℕ)
sent_in None = None
sent_in (Some entry) = sent_by_entry entry
