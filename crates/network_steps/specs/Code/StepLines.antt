-- The line of a mote's last entry.
use Rattle.std.specs.Prelude.{ℕ, List, [], Option, None, Some}
use Rattle.mote_types.specs.declared.entry.Entry.{Entry}
use Rattle.network_steps.specs.NetworkText.{mote_line}

-- of the entry that a mote made last, if it made one
abbrev pub last_entry_line : ℕ → Option Entry → List ℕ
last_entry_line m None = []
last_entry_line m (Some entry) = mote_line m entry
