-- What was read of a script, and what that says.
use Rattle.std.specs.Prelude.{◌≡◌, ◌≢◌, ℕ, ◌+◌, ◌^◌, ◌<◌, ◌≤◌, Bool, true, false, List, [], ◌∷◌, ◌++◌, length, take, Option, Some, None, Result, Ok, Err, OnOk, OnErr}
use Rattle.mote_types.specs.declared.entry.Input.{Input}
use Rattle.mote_text.specs.declared.script.BadLine.{BadLine}
use Rattle.mote_text.specs.declared.script.End.{End}
use Rattle.mote_text.specs.Code.Lines.{GoesOnAt, has_no_end, unfinished, unfinished_after, with_end}
use Rattle.mote_text.specs.Code.Reading.{Before}
use Rattle.mote_text.specs.Script.{inputs, line_limit, read_line}
use Rattle.mote_text.specs.Code.LineAnswers.{line_said}
use Rattle.mote_text.specs.declared.script_lines.Taken.{Taken}
use Rattle.kernel_core.specs.Code.Conditions.{has_bytes, ticks_of}
use Rattle.mote_run.specs.declared.script.Script.{Script}

-- a line says what it is read as, bytes before a line's end say nothing, and a line that is too long is malformed
abbrev pub said : Taken → List ℕ → Option (Option Input)
said Taken.Line line = read_line line
said Taken.More bytes = Some None
said Taken.TooWide bytes = None

-- the number of the line that follows them
abbrev pub number_after : Taken → ℕ → ℕ
number_after Taken.Line number = number + 1
number_after Taken.More number = number
number_after Taken.TooWide number = number

-- the inputs that can be submitted
abbrev pub CanBeFed : Input → Type 0
CanBeFed input = (has_bytes input ≡ true) × (ticks_of input < 2 ^ 32)

-- `used` bytes of a piece were used, up to the end of the present line, which has this number. That is what they say
pub record ReadPart (line piece line_later : List ℕ) (used number number_later : ℕ) (says : Result Bool BadLine)
    (input : Input) : Type 0 where
  pub last : Taken
  pub bytes : List ℕ
  pub joined : line ++ take used piece ≡ with_end last bytes
  pub narrow : length bytes ≤ line_limit
  pub endless : has_no_end bytes ≡ true
  pub begun : line_later ≡ unfinished_after last bytes
  pub says_so : line_said says input ≡ said last bytes
  pub numbered : OnOk says (number_later ≡ number_after last number)
  pub same_number : OnErr says (number_later ≡ number)
  pub too_wide : last ≡ Taken.TooWide → (length bytes ≡ line_limit) × GoesOnAt piece used

-- what always holds of a script between two takes
pub record IsReady (script : Script) : Type 0 where
  pub narrow : script.reader.lines.last ≢ Taken.TooWide
  pub endless : has_no_end (unfinished script.reader.lines) ≡ true
  pub number : script.reader.number ≤ script.taken + 1
  pub few : script.taken ≤ 16_777_216

-- These bytes were read. Their lines that have ended say these inputs; then come the bytes of the present line, and those that
-- are not used yet
pub record ReadSoFar (read : List ℕ) (inputs : List Input) (script : Script) : Type 0 where
  pub ended : List ℕ
  pub parts : read ≡ ended ++ (unfinished script.reader.lines ++ script.piece)
  pub size : length ended + length (unfinished script.reader.lines) ≡ script.taken
  pub narrow : length (unfinished script.reader.lines) ≤ line_limit
  pub before : Before ended inputs script.reader.number []

-- what a take returns for bytes that were read: whether they say an input, or that every script that begins with them ends there
abbrev pub Takes : List ℕ → List Input → Script → Result Bool BadLine → Type 0
Takes read earlier script (Ok false) = ReadSoFar read earlier script
Takes read earlier script (Ok true) = ReadSoFar read (earlier ++ script.reader.input ∷ []) script
Takes read earlier script (Err fault) = (more : List ℕ) → inputs (read ++ more) ≡ (earlier, End.BadLine script.reader.number)
