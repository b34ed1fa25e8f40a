-- What the blocks take and leave.
use Rattle.std.proofs.Common.{◌≡◌, ℕ, ◌+◌, ◌-◌, ◌≤◌, List, [], ◌∷◌, length, map, sum_by, fold, ap, arith}
use Rattle.std.proofs.lemmas.List.{length-take}
use Rattle.std.proofs.lemmas.List.Sums.{sum_by-cons}
use Rattle.mote_types.specs.Bytes.{range_of}
use Rattle.heap_core.specs.declared.chunk.Gap.{Gap}
use Rattle.heap_core.specs.HeapStore.{Block, footprint, gaps_from, end_of}
use Rattle.heap_core.specs.Code.BlockOrder.{LieInOrder}
use Rattle.heap_core.proofs.Lemmas.Freed.{all_bytes}
use Rattle.modules_c.specs.declared.heapmem.row.Row.{Row}
use Rattle.modules_c.specs.Heapmem.Heaps.{block_told, heap_of, size_of, room_of, LieFrom, IsTable}

module _ (bytes : List ℕ) where
  abbrev pub gap_total : ℕ → List Row → ℕ
  gap_total from rows = sum_by (λ (gap : Gap). gap.len) (gaps_from 0 from (map (block_told bytes) rows))

  abbrev pub room_total : List Row → ℕ
  room_total rows = sum_by (λ (block : Block). block.room) (map (block_told bytes) rows)

  abbrev pub ended : ℕ → List Row → ℕ
  ended from rows = fold (λ _ block. end_of 0 block) from (map (block_told bytes) rows)

  in_order : (from : ℕ) (rows : List Row) (capacity : ℕ) → LieFrom from rows capacity
      → LieInOrder 0 from (map (block_told bytes) rows) capacity
  in_order from [] capacity lie = lie
  in_order from (row ∷ rows) capacity lie =
      let later = in_order (row.offset + room_of row) rows capacity lie.2 in
      let few : length (range_of row.offset (size_of row) bytes) ≤ room_of row = omega (arith, length-take {A = ℕ}) in grind arith

  pub all_is : (from : ℕ) (rows : List Row) (capacity : ℕ) → LieFrom from rows capacity
      → (ended from rows ≤ capacity) × (from + (gap_total from rows + room_total rows) ≡ ended from rows)
  all_is from rows capacity lie =
      let all = all_bytes 0 from capacity (map (block_told bytes) rows) (in_order from rows capacity lie) in (all.0, omega arith)

  pub ended_above : (from : ℕ) (rows : List Row) (capacity : ℕ) → LieFrom from rows capacity → from ≤ ended from rows
  ended_above from rows capacity lie = omega (arith, (all_is from rows capacity lie).1)

  gap_first : (from : ℕ) (row : Row) (rows : List Row) (capacity : ℕ) → LieFrom from (row ∷ rows) capacity
      → gap_total from (row ∷ rows) ≡ row.offset - from + gap_total (row.offset + room_of row) rows
  gap_first from row rows capacity lie =
      let e : row.offset + (0 + room_of row) ≡ row.offset + room_of row = omega arith in
      omega (
        arith,
        (all_is from (row ∷ rows) capacity lie).1,
        (all_is (row.offset + room_of row) rows capacity lie.2).1,
        sum_by-cons
            (λ (block : Block). block.room) (block_told bytes row) (map (block_told bytes) rows),
        ap (λ n. ended n rows) e,
      )

module _ (rows : List Row) where
  module _ (capacity : ℕ) where
    -- after some rows n free bytes were counted
    pub record IsCounted (free from : ℕ) (left : List Row) : Type 0 where
      pub lie : LieFrom from left capacity
      pub small : free ≤ from
      pub free_is : (bytes : List ℕ) → free + gap_total bytes from left ≡ gap_total bytes 0 rows
      pub end_is : (bytes : List ℕ) → ended bytes from left ≡ ended bytes 0 rows

    pub counted_first : IsTable rows capacity → IsCounted 0 0 rows
    counted_first lie = grind arith

    pub counted_more : (free from : ℕ) (row : Row) (left : List Row) → IsCounted free from (row ∷ left)
        → IsCounted (free + (row.offset - from)) (row.offset + room_of row) left
    counted_more free from row left counted = grind (arith, gap_first)

pub taken_is : (rows : List Row) (bytes : List ℕ) (capacity free : ℕ) → IsTable rows capacity → length bytes ≡ capacity
    → free ≡ gap_total bytes 0 rows + (length bytes - footprint (heap_of rows bytes)) → capacity - free ≡ room_total bytes rows
taken_is rows bytes capacity free lie size is = let all = all_is bytes 0 rows capacity lie in omega arith
