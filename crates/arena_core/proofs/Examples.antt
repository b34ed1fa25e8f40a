-- Ranges that are apart, and ranges within a span.
use Rattle.std.proofs.Common.{ℕ, ◌+◌, ◌≤◌, ◌<◌, inl, inr, arith}
use Rattle.arena_core.specs.declared.span.Span.{Span}
use Rattle.arena_core.specs.Code.Extents.{Extent, LiesIn, AreApart}

share_none : (one other : Extent) (i : ℕ) → AreApart one other → one.at ≤ i → i < one.at + one.len → other.at ≤ i
    → i < other.at + other.len → ⊥
share_none one other i (inl before) from to from' to' = omega (arith, before, to, from')
share_none one other i (inr behind) from to from' to' = omega (arith, behind, to', from)

bytes_inside : (span : Span) (range : Extent) (i : ℕ) → LiesIn span range → range.at ≤ i → i < range.at + range.len → (span.at ≤ i)
    × (i < span.at + span.len)
bytes_inside span range i inside from to = grind arith
