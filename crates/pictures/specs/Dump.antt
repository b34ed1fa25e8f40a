-- The form of a value change dump.
use Rattle.std.specs.Prelude.{◌≡◌, ℕ, zero, suc, ◌+◌, ◌-◌, ◌*◌, ◌^◌, ◌<◌, ◌≤◌, ◌==◌, min, nat_le, false, Option, Some, None, List, ◌∷◌, ◌++◌, length, codes, decimal, if◌then◌else◌}
use Rattle.std.specs.Fmt.{digits}
use Rattle.pictures.specs.Clocks.{LieBetween, clock_at}
use Rattle.pictures.specs.Rows.{text_at}
use Rattle.pictures.specs.Transcript.Forms.{Says}
use Rattle.pictures.specs.declared.dump.values.Value.{Value}
use Rattle.pictures.specs.declared.rows.Shown.{Shown}
use Rattle.pictures.specs.declared.transcript.line.Line.{Line}

-- the line of a time
abbrev pub time_line : ℕ → List ℕ
time_line time = codes "#" ++ decimal time ++ codes "\n"

-- the binary digits of a value: x where it can't be known, z where there is none
abbrev pub value_digits : Value → List ℕ
value_digits (Value.Number number) = digits 2 false number
value_digits Value.Unknown = codes "x"
value_digits Value.Nothing = codes "z"

-- the line of a value: its digits, and the letter of the signal, the first of which is `!`
abbrev pub value_line : Value → ℕ → List ℕ
value_line value signal = codes "b" ++ value_digits value ++ codes " " ++ (33 + signal) ∷ codes "\n"

-- values from one time to another: each time is later than the one before
pub data AreChanges : ℕ → ℕ → List ℕ → Type 0 where
  begun : (time : ℕ) → AreChanges time time (time_line time)
  set : {first time : ℕ} {before : List ℕ} → AreChanges first time before → (value : Value) (signal : ℕ) → signal < 94
      → AreChanges first time (before ++ value_line value signal)
  later : {first time : ℕ} {before : List ℕ} → AreChanges first time before → (next : ℕ) → time < next
      → AreChanges first next (before ++ time_line next)

-- a signal has a value at a time: the last one that was set at that time or before. The last time so far, and the values so far
pub data HasAt (signal : ℕ) (value : Value) (time : ℕ) : ℕ → List ℕ → Type 0 where
  given : {first last : ℕ} {before : List ℕ} → AreChanges first last before → last ≤ time
      → HasAt signal value time last (before ++ value_line value signal)
  kept : {last : ℕ} {before : List ℕ} → HasAt signal value time last before → (other : Value) (at : ℕ) → (at ≡ signal → time < last)
      → HasAt signal value time last (before ++ value_line other at)
  later : {last : ℕ} {before : List ℕ} → HasAt signal value time last before → (next : ℕ) → last < next
      → HasAt signal value time next (before ++ time_line next)

-- values so far, by their first and their last time
pub record Values : Type 0 where
  pub first : ℕ
  pub last : ℕ
  pub text : List ℕ

-- values after going on to a time, if it is later
abbrev pub gone_to : Values → ℕ → Values
gone_to values time =
    if nat_le time values.last then values else record { first = values.first; last = time; text = values.text ++ time_line time }

-- the time of a clock, where a tick has so many units of time: at most 2^64 - 1
abbrev pub time_at : ℕ → ℕ → ℕ
time_at units clock = min (clock * units) (2 ^ 64 - 1)

-- the number of lines right before one that are at its clock
abbrev pub lines_before : (ℕ → ℕ) → ℕ → ℕ
lines_before clocks zero = 0
lines_before clocks (suc line) = if clocks line == clocks (suc line) then lines_before clocks line + 1 else 0

-- the time of a line: its clock's, and a unit for each line right before it at that clock
abbrev pub moment : (ℕ → ℕ) → ℕ → ℕ → ℕ
moment clocks units line = clocks line * units + lines_before clocks line

-- what a line says; None where it is no line of a transcript
abbrev pub IsReading : List ℕ → Option Line → Type 0
IsReading line (Some read) = Says line read
IsReading line None = (read : Line) → Says line read → ⊥

-- the process that takes its turn at a line; a note belongs to the turn before it
abbrev pub running_after : Option Line → Option ℕ → Option ℕ
running_after (Some (Line.Turn turn)) before = Some turn.pid
running_after (Some (Line.Note note)) before = before
running_after (Some (Line.Input input)) before = None
running_after (Some (Line.Ending ending)) before = None
running_after None before = None

abbrev pub running_value : Option ℕ → Value
running_value (Some pid) = Value.Number pid
running_value None = Value.Nothing

-- the process that takes its turn at a line, by the lines at its clock up to there
pub data IsRunning (clocks : ℕ → ℕ) (texts : ℕ → List ℕ) : ℕ → Option ℕ → Type 0 where
  first : (line : ℕ) (reading : Option Line) → lines_before clocks line ≡ 0 → IsReading (texts line) reading
      → IsRunning clocks texts line (running_after reading None)
  more : {line : ℕ} {before : Option ℕ} → IsRunning clocks texts line before → (reading : Option Line)
      → clocks line ≡ clocks (suc line) → IsReading (texts (suc line)) reading
      → IsRunning clocks texts (suc line) (running_after reading before)

-- the first signal says at a line's time which process takes its turn there
pub record IsTold (clocks : ℕ → ℕ) (texts : ℕ → List ℕ) (units line last : ℕ) (values : List ℕ) : Type 0 where
  pub running : Option ℕ
  pub runs : IsRunning clocks texts line running
  pub told : HasAt 0 (running_value running) (moment clocks units line) last values

-- the lines that are shown lie between these times: the first one is its line's, and the last one a tick or more after its line's. Each
-- line between is told at its time, where a tick has time for all lines at one clock
pub record Spans (lines : List (List ℕ)) (shown : Shown) (first last : ℕ) (values : List ℕ) : Type 0 where
  pub units : ℕ
  pub some : 0 < units
  pub begins : first ≡ time_at units (clock_at lines shown.first)
  pub ends : time_at units (clock_at lines (shown.end - 1) + 1) ≤ last
  pub told : length lines < 10 ^ 15 → (line : ℕ) → shown.first ≤ line → line < shown.end
      → moment (clock_at lines) units line < 2 ^ 64 - 1
      → IsTold (clock_at lines) (text_at lines) units line last values

-- a dump of the lines between two clocks: declarations up to the words that end them, and values, which span these lines
pub record IsDump (lines : List (List ℕ)) (from to : ℕ) (dump : List ℕ) : Type 0 where
  pub declarations : List ℕ
  pub values : List ℕ
  pub whole : dump ≡ declarations ++ codes "$enddefinitions $end\n" ++ values
  pub first : ℕ
  pub last : ℕ
  pub are_changes : AreChanges first last values
  pub shown : Shown
  pub between : LieBetween lines from to shown
  pub spans : shown.first < shown.end → Spans lines shown first last values
