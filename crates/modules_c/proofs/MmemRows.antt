-- What a table's rows say of the positions, and the positions of the rows.
use Rattle.mmem_core.proofs.Words.{◌≡◌, ◌≢◌, ℕ, ◌+◌, ◌≤◌, ◌<◌, ◌⊎◌, inl, inr, List, length, Option, Some, None, ap, arith, cases_eq, cases_lt, up4, number_of, place_in, at_of, room_of, LieApart}
use Rattle.mmem_core.specs.declared.place.Place.{Place}
use Rattle.std.proofs.Math.ListN.{get_or-map}
use Rattle.std.proofs.lemmas.List.{get_or_past}
use Rattle.mmem_core.specs.Code.Places.{last_end}
use Rattle.mmem_core.proofs.PlaceLemmas.{placed, end_le_last, last_le}
use Rattle.modules_c.specs.declared.mmem.block.Block.{Block}
use Rattle.modules_c.specs.Mmem.Stored.{place_told, places_told, IsTable, process_of, handle_of}
use Rattle.modules_c.specs.Code.MmemRows.{row_of, EndsBefore, AreSound}

pub number_is : (handle : ℕ) → number_of (process_of handle) (handle_of handle) ≡ handle
number_is handle = omega arith

module _ (row : Block) where
  pub told_some : 0 < row.size → place_told row ≡ placed row.offset row.size
  told_some some = grind arith

module _ (table : List Block) where
  module _ (i : ℕ) where
    pub place_in-told : place_in (places_told table) i ≡ place_told (row_of table i)
    place_in-told = get_or-map place_told table i (record { offset = 0; size = 0 })

    pub room_is : room_of (place_in (places_told table) i) ≡ up4 (row_of table i).size
    room_is = grind (arith, place_in-told)

    pub at_is : 0 < (row_of table i).size → at_of (place_in (places_told table) i) ≡ (row_of table i).offset
    at_is some = grind (arith, place_in-told)

    pub live_below : 0 < (row_of table i).size → i < length table
    live_below some = elim (cases_lt i (length table)) [
      | inl below ↦ below
      | inr past ↦ absurd (grind (arith, get_or_past table i (record { offset = 0; size = 0 }) past))
    ]

    pub live_is : 0 < (row_of table i).size
        → place_in (places_told table) i ≡ placed (row_of table i).offset (row_of table i).size
    live_is some = grind (arith, place_in-told)

    pub unused_is : (row_of table i).size ≡ 0 → place_in (places_told table) i ≡ None
    unused_is none = grind (arith, place_in-told)

-- what mmem_core's lemmas require of a table's positions, and what follows
module _ (table : List Block) (capacity : ℕ) where
  abbrev xs : List (Option Place)
  xs = places_told table

  pub table_lies : IsTable table capacity → LieApart xs capacity
  table_lies sound = grind (arith, unused_is, room_is)

  pub table_of : LieApart xs capacity → IsTable table capacity
  table_of lie = grind arith

module _ (table : List Block) where
  -- where the rows' blocks end
  pub row_le_last : (i : ℕ) → 0 < (row_of table i).size
      → (row_of table i).offset + up4 (row_of table i).size ≤ last_end (places_told table)
  row_le_last i some = omega (arith, at_is table i some, room_is table i, end_le_last (places_told table) i)

  pub last_le_rows : (n : ℕ)
      → ((j : ℕ) → j < length table → 0 < (row_of table j).size → (row_of table j).offset + up4 (row_of table j).size ≤ n)
      → last_end (places_told table) ≤ n
  last_le_rows n each = last_le (places_told table) n (λ i. ends i (cases_eq (row_of table i).size 0))
    where
      ends : (i : ℕ) → ((row_of table i).size ≡ 0) ⊎ ((row_of table i).size ≢ 0)
          → at_of (place_in (places_told table) i) + room_of (place_in (places_told table) i) ≤ n
      ends i (inl none) = let a = ap at_of (unused_is table i none) in let r = ap room_of (unused_is table i none) in omega arith
      ends i (inr ne) =
          let some : 0 < (row_of table i).size = omega arith in
          omega (arith, at_is table i some, room_is table i, each i (live_below table i some) some)

  module _ (capacity : ℕ) where
    pub table_from : AreSound table capacity (length table) → IsTable table capacity
    table_from sound = grind (arith, table_of, room_is, at_is, live_below, unused_is)

    module _ (i : ℕ) where
      pub row_inside : IsTable table capacity → 0 < (row_of table i).size
          → (row_of table i).offset + up4 (row_of table i).size ≤ capacity
      row_inside sound some = omega (arith, at_is table i some, room_is table i, (table_lies table capacity sound).inside i)

      -- a block with a position outside ends after n bytes
      pub row_outside : (place : Place) → 0 < (row_of table i).size
          → capacity < (row_of table i).offset + up4 (row_of table i).size → place_in (places_told table) i ≡ Some place
          → capacity < place.at + up4 place.len
      row_outside place some outside told =
          omega (arith, at_is table i some, room_is table i, ap at_of told, ap room_of told)

      pub row_clear : (j : ℕ) → IsTable table capacity → j ≢ i → EndsBefore (row_of table i) (row_of table j)
      row_clear j sound ne one other le =
          grind (arith, room_is table j, room_is table i, at_is table j other, at_is table i one)
