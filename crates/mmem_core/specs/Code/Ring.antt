-- How the links of the entries make the order of the blocks. Entry 272, after those of all names, stands for both ends.
use Rattle.std.specs.Prelude.{◌≡◌, ◌≢◌, ℕ, ◌≤◌, ◌<◌, ◌⊎◌, List, length, get_or, set, sum_by, Option, Some, None}
use Rattle.mmem_core.specs.declared.order.Order.{Order}
use Rattle.mmem_core.specs.declared.place.Place.{Place}
use Rattle.mmem_core.specs.Code.Places.{place_in}
use Rattle.mmem_core.specs.Code.Laid.{at_of, room_of, end_at}

-- what a link names: the number of a block, or an end
abbrev pub Names : ℕ → Option ℕ → Type 0
Names link None = link ≡ 272
Names link (Some number) = (number ≡ link) × (number < 272)

-- the last entry before both ends is linked with x, and x with both ends
abbrev pub appended : ℕ → Order → Order
appended x order =
    let last = get_or order.before 272 0 in
    record { before = set (set order.before x last) 272 x; after = set (set order.after last x) x 272 }

-- the entries before and after x are linked with each other
abbrev pub removed : ℕ → Order → Order
removed x order =
    let lower = get_or order.before x 0 in let higher = get_or order.after x 0 in
    record { before = set order.before higher lower; after = set order.after lower higher }

-- the entry is that of a live block, or stands for both ends
abbrev pub IsEntry : List (Option Place) → ℕ → Type 0
IsEntry places i = (i ≡ 272) ⊎ (0 < room_of (place_in places i))

-- of the blocks that begin at `low` or after it, this entry's is the lowest; where there is none, it stands for both ends
pub record IsNext (places : List (Option Place)) (low i : ℕ) : Type 0 where
  pub entry : (i ≡ 272) ⊎ ((0 < room_of (place_in places i)) × (low ≤ at_of (place_in places i)))
  pub lowest : (j : ℕ) → 0 < room_of (place_in places j) → low ≤ at_of (place_in places j)
      → (i ≢ 272) × (at_of (place_in places i) ≤ at_of (place_in places j))

-- each entry is linked with that of the next block after its own, both ends with the lowest, and each link has one back
pub record IsLinked (places : List (Option Place)) (order : Order) : Type 0 where
  pub names : length places ≡ 272
  pub entries_before : length order.before ≡ 273
  pub entries_after : length order.after ≡ 273
  pub next : (i : ℕ) → IsEntry places i → IsNext places (end_at places i) (get_or order.after i 0)
  pub back : (i : ℕ) → IsEntry places i → get_or order.before (get_or order.after i 0) 0 ≡ i
  pub last : (i : ℕ) → IsEntry places i → IsEntry places (get_or order.before i 0)
  pub forth : (i : ℕ) → IsEntry places i → get_or order.after (get_or order.before i 0) 0 ≡ i

-- the same, which searches do not look into
unfoldable pub AreLinked : List (Option Place) → Order → Type 0
AreLinked places order = IsLinked places order

-- the blocks are linked in the order of their positions, and take `used` of `size` bytes
pub record IsLaidOut (places : List (Option Place)) (order : Order) (used size : ℕ) : Type 0 where
  pub linked : AreLinked places order
  pub total : sum_by room_of places ≡ used
  pub fits : used ≤ size
