-- Ranges of an arena's bytes, and whether they are apart.
use Rattle.std.specs.Prelude.{ℕ, ◌+◌, ◌≤◌, ◌⊎◌}
use Rattle.arena_core.specs.declared.span.Span.{Span}

-- `len` bytes from `at` on
pub record Extent : Type 0 where
  pub at : ℕ
  pub len : ℕ

-- the range is a part of the span
abbrev pub LiesIn : Span → Extent → Type 0
LiesIn span range = (span.at ≤ range.at) × (range.at + range.len ≤ span.at + span.len)

-- the two share no byte
abbrev pub AreApart : Extent → Extent → Type 0
AreApart one other = (one.at + one.len ≤ other.at) ⊎ (other.at + other.len ≤ one.at)
