-- What the code computes of the rows of a table.
use Rattle.std.specs.Prelude.{◌≡◌, ◌≢◌, ℕ, ◌+◌, ◌≤◌, ◌<◌, List, length, slice_index_or, Option, Some, None}
use Rattle.mote_types.specs.Rounding.{up4}
use Rattle.mmem_core.specs.Code.Places.{place_in, last_end}
use Rattle.mmem_core.specs.Code.Laid.{at_of, room_of}
use Rattle.modules_c.specs.declared.mmem.block.Block.{Block}
use Rattle.modules_c.specs.Mmem.Stored.{places_told}

abbrev pub row_of : List Block → ℕ → Block
row_of table i = slice_index_or table i (record { offset = 0; size = 0 })

-- one ends where the other begins, or before, unless it begins after that
abbrev pub EndsBefore : Block → Block → Type 0
EndsBefore one other = 0 < one.size → 0 < other.size → one.offset ≤ other.offset → one.offset + up4 one.size ≤ other.offset

-- block i ends before each other one of the first n that begins no lower
abbrev pub IsClear : List Block → ℕ → ℕ → Type 0
IsClear table i n = (j : ℕ) → j < n → j ≢ i → EndsBefore (row_of table i) (row_of table j)

-- each of the first n is in these bytes, and apart from all
abbrev pub AreSound : List Block → ℕ → ℕ → Type 0
AreSound table capacity n = (i : ℕ) → i < n
    → ((0 < (row_of table i).size → (row_of table i).offset + up4 (row_of table i).size ≤ capacity)
    × IsClear table i (length table))

-- of the first n that begin at `low` or after it, this is the lowest
abbrev pub IsNext : List Block → ℕ → ℕ → Option ℕ → Type 0
IsNext table low n None = (j : ℕ) → j < n → 0 < (row_of table j).size → (row_of table j).offset < low
IsNext table low n (Some i) = (i < n) × (0 < (row_of table i).size) × (low ≤ (row_of table i).offset)
    × ((j : ℕ) → j < n → 0 < (row_of table j).size → low ≤ (row_of table j).offset
    → (row_of table i).offset ≤ (row_of table j).offset)

-- each block is where it was, or lower, and of two blocks the lower one still is
pub record MovesDown (old new : List Block) : Type 0 where
  pub down : (i : ℕ) → at_of (place_in (places_told new) i) ≤ at_of (place_in (places_told old) i)
  pub order : (i j : ℕ) → 0 < room_of (place_in (places_told old) i)
      → at_of (place_in (places_told old) i) < at_of (place_in (places_told old) j)
      → at_of (place_in (places_told new) i) < at_of (place_in (places_told new) j)

-- a block with bytes that begins where the last one ends, and is in these bytes
pub record LiesBehind (table : List Block) (capacity : ℕ) (block : Block) : Type 0 where
  pub end : block.offset ≡ last_end (places_told table)
  pub some_bytes : 0 < block.size
  pub room : block.offset + up4 block.size ≤ capacity
