-- A walk over the rows, from the lowest on.
use Rattle.std.proofs.Common.{◌≡◌, ℕ, ◌+◌, ◌-◌, ◌≤◌, ◌<◌, ◌⊎◌, List, ◌∷◌, map, fold, Option, Some, IfSome, arith}
use Rattle.std.specs.Option.{option_map}
use Rattle.heap_core.specs.HeapStore.{better, best_gap, gaps, gaps_from, end_of, footprint}
use Rattle.modules_c.specs.declared.heapmem.row.Row.{Row}
use Rattle.modules_c.specs.declared.heapmem.row.Hole.{Hole}
use Rattle.modules_c.specs.Heapmem.Heaps.{block_told, heap_of, room_of, LieFrom}
use Rattle.modules_c.specs.Code.HeapmemRows.{gap_of, IsFree}

module _ (rows : List Row) where
  -- the rows left, the position, and the best gap so far
  pub record IsMidway (capacity need : ℕ) (best : Option Hole) (from : ℕ) (left : List Row) : Type 0 where
    pub lie : LieFrom from left capacity
    pub best_is : (bytes : List ℕ) → fold (better need) (option_map gap_of best) (gaps_from 0 from (map (block_told bytes) left))
        ≡ best_gap need (gaps (heap_of rows bytes))
    pub end_is : (bytes : List ℕ) → fold (λ _ block. end_of 0 block) from (map (block_told bytes) left) ≡ footprint (heap_of rows bytes)
    pub found : IfSome best (λ hole. (need ≤ hole.len) × IsFree 0 rows capacity hole.at hole.len)
    pub free : (at len : ℕ) → IsFree from left capacity at len → IsFree 0 rows capacity at len

module _ (rows : List Row) (capacity need : ℕ) (best : Option Hole) (from : ℕ) (row : Row) (left : List Row)
    (midway : IsMidway rows capacity need best from (row ∷ left)) where
  abbrev end : ℕ
  end = row.offset + room_of row

  module _ (less : from < row.offset) (new : Option Hole) where
    abbrev hole : Hole
    hole = record { at = from; len = row.offset - from }

    pub midway_gap : option_map gap_of new ≡ better need (option_map gap_of best) (gap_of hole) → (new ≡ best)
        ⊎ ((new ≡ Some hole) × (need ≤ hole.len)) → IsMidway rows capacity need new end left
    midway_gap is chosen = grind arith
