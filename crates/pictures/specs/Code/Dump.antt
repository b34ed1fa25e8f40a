-- How a walk over lines writes values.
use Rattle.std.specs.Prelude.{◌≡◌, ℕ, suc, ◌+◌, ◌-◌, ◌*◌, ◌^◌, ◌<◌, ◌≤◌, ◌==◌, min, max, Option, Some, None, List, get_or, if◌then◌else◌}
use Rattle.pictures.specs.Dump.{HasAt, IsReading, IsTold, Values, lines_before, moment, running_after, running_value}
use Rattle.pictures.specs.declared.dump.values.Value.{Value}
use Rattle.pictures.specs.declared.dump.Walk.{Walk}
use Rattle.pictures.specs.declared.transcript.line.Line.{Line}

-- what the first signal has before a time stays so
abbrev pub Keeps : ℕ → Values → Values → Type 0
Keeps time old new =
    (value : Value) (earlier : ℕ) → earlier < time → HasAt 0 value earlier old.last old.text → HasAt 0 value earlier new.last new.text

-- the time of what is written next
abbrev pub next_time : Walk → ℕ
next_time walk = min (walk.clock * walk.scale.units + walk.lines_at_clock) (2 ^ 64 - 1)

-- the lines at a clock so far
abbrev pub lines_at : Walk → ℕ → ℕ
lines_at walk clock = if walk.clock == clock then walk.lines_at_clock else 0

-- the time of a line that comes next, by its clock
abbrev pub line_time : Walk → ℕ → ℕ
line_time walk clock = min (clock * walk.scale.units + lines_at walk clock) (2 ^ 64 - 1)

-- the process that takes its turn before a line at a clock, if one does
abbrev pub running_at : Walk → ℕ → Option ℕ
running_at walk clock = if walk.clock == clock then walk.levels.running else None

abbrev pub first_written : Walk → Option Value
first_written walk = get_or walk.written 0 None

-- the first signal has the value that was written last from the last time on
abbrev pub IsCurrent : Walk → Type 0
IsCurrent walk =
    (value : Value) → first_written walk ≡ Some value → (time : ℕ) → walk.dump.last ≤ time
    → HasAt 0 value time walk.dump.last walk.dump.text

-- values are written at the present time
pub record Writes (old new : Walk) : Type 0 where
  pub current : IsCurrent new
  pub last : new.dump.last ≤ max old.dump.last (next_time old)
  pub keeps : Keeps (next_time old) old.dump new.dump

-- a line at a clock is written
pub record TakesLine (line : List ℕ) (clock : ℕ) (old new : Walk) : Type 0 where
  pub lines : new.lines_at_clock ≡ min (lines_at old clock + 1) (2 ^ 64 - 1)
  pub current : IsCurrent new
  pub last : new.dump.last ≤ max (max old.dump.last (next_time old)) (line_time old clock)
  pub keeps : (time : ℕ) → time ≤ next_time old → time ≤ line_time old clock → Keeps time old.dump new.dump
  pub reading : Option Line
  pub reads : IsReading line reading
  pub runs : new.levels.running ≡ running_after reading (running_at old clock)
  pub written : first_written new ≡ Some (running_value new.levels.running)

-- the clocks grow, and a tick has time for the lines at each
pub record HasRoom (clocks : ℕ → ℕ) (units count : ℕ) : Type 0 where
  pub grow : (line : ℕ) → suc line < count → clocks line ≤ clocks (suc line)
  pub fits : (line : ℕ) → line < count → lines_before clocks line < units

-- then each line is told at its time
abbrev pub AreTold : (ℕ → ℕ) → ℕ → ℕ → (ℕ → List ℕ) → Values → Type 0
AreTold clocks units count texts values =
    HasRoom clocks units count → (line : ℕ) → line < count → moment clocks units line < 2 ^ 64 - 1
    → IsTold clocks texts units line values.last values.text
