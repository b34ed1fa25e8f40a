-- What reading a line returns, with the buffer for its input; and a line at the front of a piece.
use Rattle.std.specs.Prelude.{◌≡◌, ◌+◌, ◌<◌, ◌≤◌, ◌++◌, [], ◌∷◌, ℕ, List, length, take, Bool, true, false, Option, Some, None, Result, Ok, Err}
use Rattle.mote_types.specs.declared.entry.Input.{Input}
use Rattle.mote_text.specs.Code.Lines.{has_no_end}
use Rattle.mote_text.specs.Script.{read_line}
use Rattle.mote_text.specs.declared.script.BadLine.{BadLine}

-- the value in a buffer, if the result says that it was written there
abbrev pub some_if : {A : Type 0} → Bool → A → Option A
some_if true value = Some value
some_if false value = None

-- what a line says: the input in the buffer, or nothing. None if the line is malformed
abbrev pub line_said : Result Bool BadLine → Input → Option (Option Input)
line_said (Ok is_input) input = Some (some_if is_input input)
line_said (Err fault) input = None

-- a piece begins with a line `tick N` and its end: the line has `len` bytes without its end, and says this input
pub record IsTickLine (piece : List ℕ) (len : ℕ) (input : Input) : Type 0 where
  pub line : take (len + 1) piece ≡ take len piece ++ 10 ∷ []
  pub size : len < length piece
  pub narrow : len ≤ 13
  pub endless : has_no_end (take len piece) ≡ true
  pub says : read_line (take len piece) ≡ Some (Some input)
  pub tick : (number : ℕ) × (input ≡ Input.Tick number)
