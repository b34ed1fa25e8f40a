-- Whether a transcript shows the last entry of a session.
use Rattle.std.specs.Prelude.{Bool, false, Option, None, Some}
use Rattle.mote_text.specs.Transcript.{is_shown}
use Rattle.mote_types.specs.declared.entry.Entry.{Entry}

-- if there is one
abbrev pub is_last_shown : Bool → Option Entry → Bool
is_last_shown quiet None = false
is_last_shown quiet (Some entry) = is_shown entry quiet
