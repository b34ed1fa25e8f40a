-- The clock at the lines of a transcript, and at rows of them, and which lines are between two clocks.
use Rattle.std.specs.Prelude.{ℕ, ◌+◌, ◌-◌, ◌^◌, ◌<◌, ◌≤◌, min, List, [], ◌∷◌, length, take, sum_by}
use Rattle.pictures.specs.Transcript.Lines.{ticks_of}
use Rattle.pictures.specs.declared.rows.row.Row.{Row}
use Rattle.pictures.specs.declared.rows.Shown.{Shown}

-- the clock after these lines: the sum of their ticks, at most 2^64 - 1
abbrev pub clock_after : List (List ℕ) → ℕ
clock_after lines = min (sum_by ticks_of lines) (2 ^ 64 - 1)

-- the clock at a line, its own ticks included
abbrev pub clock_at : List (List ℕ) → ℕ → ℕ
clock_at lines line = clock_after (take (line + 1) lines)

-- the clock at the end of a row, after all lines up to there
abbrev pub row_clock : List (List ℕ) → Row → ℕ
row_clock lines row = clock_after (take (row.first + row.count) lines)

-- where the first row begins; all lines are before it where there is none
abbrev pub first_of : List Row → ℕ → ℕ
first_of [] end = end
first_of (row ∷ rows) end = row.first

-- the lines that are shown are those at which the clock is between the two, both included
pub record LieBetween (lines : List (List ℕ)) (from to : ℕ) (shown : Shown) : Type 0 where
  pub before : (line : ℕ) → line < shown.first → clock_at lines line < from
  pub within : (line : ℕ) → shown.first ≤ line → line < shown.end → (from ≤ clock_at lines line) × (clock_at lines line ≤ to)
  pub after : (line : ℕ) → shown.end ≤ line → line < length lines → to < clock_at lines line
