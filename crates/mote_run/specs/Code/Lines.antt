-- The lines of a run's entries.
use Rattle.std.specs.Prelude.{ℕ, Bool, List, filter, flat_map}
use Rattle.mote_types.specs.declared.entry.Entry.{Entry}
use Rattle.mote_text.specs.EntryText.{entry_line}
use Rattle.mote_text.specs.Transcript.{is_shown}

-- the lines of the entries that are shown
abbrev pub lines : Bool → List Entry → List ℕ
lines quiet entries = flat_map entry_line (filter (λ entry. is_shown entry quiet) entries)
