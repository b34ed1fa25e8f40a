-- Heap memory that C stores: its bytes, and beside them a row for each block, in the order of their positions.
use Rattle.std.specs.Prelude.{ℕ, ◌+◌, ◌-◌, ◌/◌, ◌%◌, ◌≤◌, List, [], ◌∷◌, length, map, take}
use Rattle.mote_types.specs.Bytes.{zeros, range_of, resized}
use Rattle.heap_core.specs.declared.chunk.Place.{Place}
use Rattle.heap_core.specs.HeapStore.{Block, HeapStore, block_at, with_block, without_block}
use Rattle.modules_c.specs.declared.heapmem.row.Row.{Row}

-- a row has 27 bits for a block's size: those of a heap with as many bytes as this might not fit
abbrev pub row_limit : ℕ
row_limit = 134217728

-- the number of a block's bytes
unfoldable pub size_of : Row → ℕ
size_of row = row.extent / 32

-- the number of further bytes that are reserved for it
unfoldable pub rest_of : Row → ℕ
rest_of row = row.extent % 32

abbrev pub room_of : Row → ℕ
room_of row = size_of row + rest_of row

-- a block is named by the position where it begins
abbrev pub block_told : List ℕ → Row → Block
block_told bytes row = record { name = row.offset; at = row.offset; room = room_of row; bytes = range_of row.offset (size_of row) bytes }

-- what rows and bytes stand for: heap_core's heap, except that no header is before a block
abbrev pub heap_of : List Row → List ℕ → HeapStore
heap_of rows bytes = record { size = length bytes; header = 0; blocks = map (block_told bytes) rows }

-- from a position on are these blocks, each after the one before, up to the end of n bytes; each has room
abbrev pub LieFrom : ℕ → List Row → ℕ → Type 0
LieFrom from [] capacity = from ≤ capacity
LieFrom from (row ∷ rows) capacity =
    (from ≤ row.offset) × (1 ≤ room_of row) × LieFrom (row.offset + room_of row) rows capacity

-- the rows describe blocks that are in n bytes, apart from each other
abbrev pub IsTable : List Row → ℕ → Type 0
IsTable rows capacity = LieFrom 0 rows capacity

-- all rows but the last one, which is spare
abbrev pub front : List Row → List Row
front rows = take (length rows - 1) rows

-- the heap with a new block of n zeros there
abbrev pub with_new : Place → ℕ → HeapStore → HeapStore
with_new place n heap = with_block (block_at place place.at (zeros n)) heap

-- the heap with that block there instead of where it was, and resized to n bytes
abbrev pub with_resized : Place → ℕ → Block → HeapStore → HeapStore
with_resized place n block heap = with_block (block_at place place.at (resized n block.bytes)) (without_block block.name heap)
