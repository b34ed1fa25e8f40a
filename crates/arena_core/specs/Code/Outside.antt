-- What a call leaves unchanged that may write to one range only.
use Rattle.std.specs.Prelude.{◌≡◌, ℕ, ◌+◌, ◌≤◌, ◌⊎◌, List, length, slice_range}

-- no byte changed outside the len bytes from at on: each range that does not meet them reads as it did
pub record ChangesOnly (at len : ℕ) (old new : List ℕ) : Type 0 where
  pub size : length new ≡ length old
  pub others : (from n : ℕ) → (from + n ≤ at) ⊎ (at + len ≤ from) → slice_range new from (from + n) ≡ slice_range old from (from + n)
