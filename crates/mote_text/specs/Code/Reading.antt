-- A script as far as it was read, byte by byte.
use Rattle.std.specs.Prelude.{◌≡◌, ◌+◌, ◌-◌, ℕ, zero, suc, List, [], ◌∷◌, ◌++◌, length, if◌then◌else◌, nat_lt, ◌==◌}
use Rattle.mote_types.specs.declared.entry.Input.{Input}
use Rattle.mote_text.specs.declared.script.End.{End}
use Rattle.mote_text.specs.Script.{inputs, line_limit, read_line, read_lines, script_limit, whole_lines, with_line}

-- inputs, and how the script ends
abbrev pub Reading : Type 0
Reading = List Input × End

-- inputs of earlier lines
abbrev pub preceded_by : List Input → Reading → Reading
preceded_by earlier later = (earlier ++ later.0, later.1)

-- what the rest of a script gives: its present line has this number and begins with these bytes, and at most `room` more bytes
-- are read
unfoldable pub read_on : ℕ → List ℕ → ℕ → List ℕ → Reading
read_on number line room [] = with_line number (read_line line) ([], End.Finished)
read_on number line zero (byte ∷ rest) = ([], End.TooLong)
read_on number line (suc room) (byte ∷ rest) =
    if byte == 10 then with_line number (read_line line) (read_on (number + 1) [] room rest)
    else if nat_lt (length line) line_limit then read_on number (line ++ byte ∷ []) room rest
    else ([], End.BadLine number)

-- these bytes were taken: they end the lines of these inputs, and begin the present line, which has this number
pub record Before (taken : List ℕ) (earlier : List Input) (number : ℕ) (line : List ℕ) : Type 0 where
  pub whole : read_lines 1 End.Finished (whole_lines taken) ≡ (earlier, End.Finished)
  pub onward : (rest : List ℕ) → inputs (taken ++ rest) ≡ preceded_by earlier (read_on number line (script_limit - length taken) rest)
