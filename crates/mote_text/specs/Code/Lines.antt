-- The lines of a script, whose bytes come in pieces.
use Rattle.std.specs.Prelude.{◌≡◌, ◌≢◌, ℕ, Bool, not, List, [], ◌∷◌, ◌++◌, ◌==◌, slice_get, Some}
use Rattle.std.specs.List.{list_all}
use Rattle.mote_text.specs.declared.script_lines.Taken.{Taken}

-- what was taken of the script so far
pub record LinesView : Type 0 where
  -- if the last take ended a line: that line, without its end. Otherwise the bytes of the line that hasn't ended
  pub bytes : List ℕ
  -- why the last take stopped
  pub last : Taken

abbrev pub nothing_taken : LinesView
nothing_taken = record { bytes = []; last = Taken.More }

-- these bytes; a whole line is followed by its end
abbrev pub with_end : Taken → List ℕ → List ℕ
with_end Taken.Line line = line ++ 10 ∷ []
with_end Taken.TooWide bytes = bytes
with_end Taken.More bytes = bytes

-- the bytes of a line that hasn't ended
abbrev pub unfinished_after : Taken → List ℕ → List ℕ
unfinished_after Taken.Line line = []
unfinished_after Taken.TooWide bytes = bytes
unfinished_after Taken.More bytes = bytes

abbrev pub unfinished : LinesView → List ℕ
unfinished lines = unfinished_after lines.last lines.bytes

abbrev pub has_no_end : List ℕ → Bool
has_no_end bytes = list_all (λ byte. not (byte == 10)) bytes

-- there is a byte at this position, and it is no line end
abbrev pub GoesOnAt : List ℕ → ℕ → Type 0
GoesOnAt piece at = (byte : ℕ) × (slice_get piece at ≡ Some byte) × (byte ≢ 10)
