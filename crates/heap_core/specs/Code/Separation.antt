-- Where the live blocks are in the arena.
use Rattle.std.specs.Prelude.{◌≡◌, ◌≢◌, ℕ, ◌+◌, ◌≤◌, ◌⊎◌, List, length, Option, Some}
use Rattle.std.specs.Option.{option_map}
use Rattle.mote_types.specs.BlockNames.{number_of}
use Rattle.mote_types.specs.Code.Conditions.{IsName}
use Rattle.mote_types.specs.Bytes.{range_of}
use Rattle.arena_core.specs.Code.Extents.{Extent, LiesIn, AreApart}
use Rattle.heap_core.specs.declared.heap.Heap.{Heap}
use Rattle.heap_core.specs.HeapStore.{Block, HeapStore, find_block, block_of}
use Rattle.heap_core.specs.Code.HeapBytes.{heap_of}

-- p's block, if it is live
abbrev pub live_block : ℕ → ℕ → HeapStore → Option Block
live_block p h heap = find_block (number_of p h) heap

-- the part of the arena that a block takes, with its header
abbrev pub extent_of : Heap → Block → Extent
extent_of heap block = record { at = heap.span.at + block.at; len = heap.header + block.room }

-- the bytes after a block's header in the arena, as many as the block has
abbrev pub bytes_behind_header : Heap → List ℕ → Block → List ℕ
bytes_behind_header heap bytes block = range_of (heap.span.at + block.at + heap.header) (length block.bytes) bytes

-- Each live block takes a part of the heap's span, and its bytes are those after its header there; the parts of two blocks of
-- different names share no byte.
pub record BlocksLieApart (heap : Heap) (bytes : List ℕ) : Type 0 where
  pub read : (p h : ℕ) → block_of p h (heap_of heap bytes) ≡ option_map (bytes_behind_header heap bytes)
      (live_block p h (heap_of heap bytes))
  pub room : (p h : ℕ) (block : Block) → live_block p h (heap_of heap bytes) ≡ Some block → length block.bytes ≤ block.room
  pub inside : (p h : ℕ) (block : Block) → live_block p h (heap_of heap bytes) ≡ Some block → LiesIn heap.span (extent_of heap block)
  pub apart : (p h q k : ℕ) (one other : Block) → IsName p h → IsName q k → (p ≢ q) ⊎ (h ≢ k)
      → live_block p h (heap_of heap bytes) ≡ Some one → live_block q k (heap_of heap bytes) ≡ Some other
      → AreApart (extent_of heap one) (extent_of heap other)
