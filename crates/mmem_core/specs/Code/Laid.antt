-- How the code keeps the blocks: apart from each other, with holes between them or without.
use Rattle.std.specs.Prelude.{◌≢◌, ℕ, ◌+◌, ◌≤◌, ◌<◌, List, Option, Some, None}
use Rattle.mote_types.specs.Rounding.{up4}
use Rattle.mmem_core.specs.declared.place.Place.{Place}
use Rattle.mmem_core.specs.Code.Places.{place_in}

abbrev pub at_of : Option Place → ℕ
at_of None = 0
at_of (Some place) = place.at

-- what a block takes: its length, rounded up
abbrev pub room_of : Option Place → ℕ
room_of None = 0
room_of (Some place) = up4 place.len

-- where the block with this number ends; 0 where it is not live
abbrev pub end_at : List (Option Place) → ℕ → ℕ
end_at places i = at_of (place_in places i) + room_of (place_in places i)

-- the blocks are in `size` bytes, apart from each other
pub record LieApart (places : List (Option Place)) (size : ℕ) : Type 0 where
  pub inside : (i : ℕ) → at_of (place_in places i) + room_of (place_in places i) ≤ size
  pub apart : (i j : ℕ) → i ≢ j → 0 < room_of (place_in places i) → 0 < room_of (place_in places j)
      → at_of (place_in places i) ≤ at_of (place_in places j)
      → at_of (place_in places i) + room_of (place_in places i) ≤ at_of (place_in places j)
  pub no_empty : (i : ℕ) → place_in places i ≢ None → 0 < room_of (place_in places i)
