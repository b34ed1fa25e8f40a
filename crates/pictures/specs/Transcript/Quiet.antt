-- What a quiet transcript shows.
use Rattle.std.specs.Prelude.{◌≡◌, ℕ, Bool, true, false, ◌||◌, List, codes, eqb, Option, Some, None}
use Rattle.std.specs.List.{starts_with}
use Rattle.pictures.specs.declared.transcript.line.Ending.{Ending}
use Rattle.pictures.specs.declared.transcript.line.Line.{Line}
use Rattle.pictures.specs.declared.transcript.line.Note.{Note}
use Rattle.pictures.specs.Transcript.Forms.{Says}
use Rattle.pictures.specs.Transcript.Lines.{ending_in}

-- a call that prints or sends
abbrev pub shows_call : List ℕ → Bool
shows_call call = starts_with eqb call (codes "print ") || starts_with eqb call (codes "packet-send ")

-- a turn with such a call, a frame that was sent, or how the run ended
abbrev pub is_shown : Line → Bool
is_shown (Line.Input input) = false
is_shown (Line.Turn turn) = shows_call turn.call.now
is_shown (Line.Note (Note.Lost reason)) = false
is_shown (Line.Note (Note.Sent digits)) = true
is_shown (Line.Ending ending) = true

-- the line says that
abbrev pub MayStay : List ℕ → Type 0
MayStay line = (read : Line) × Says line read × (is_shown read ≡ true)

-- it says that, and nothing else
abbrev pub MustStay : List ℕ → Type 0
MustStay line = MayStay line × ((read : Line) → Says line read → is_shown read ≡ true)

-- how the script ended, whatever the mote did
abbrev pub is_of_script : Option Ending → Bool
is_of_script None = false
is_of_script (Some Ending.Halt) = false
is_of_script (Some (Ending.BadLine number)) = true
is_of_script (Some Ending.TooLong) = true

-- the line says that
abbrev pub ends_script : List ℕ → Bool
ends_script line = is_of_script (ending_in line)
