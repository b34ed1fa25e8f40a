-- What calls ask of sizes, and what they read of a block.
use Rattle.std.specs.Prelude.{◌≡◌, ℕ, ◌%◌, ◌≤◌, ◌⊎◌, length, Option}
use Rattle.std.specs.Option.{option_map}
use Rattle.mote_types.specs.Kinds.{ProcessNumber, Handle}
use Rattle.mote_types.specs.Limits.{region_limit}
use Rattle.mote_types.specs.BlockNames.{number_of}
use Rattle.heap_core.specs.declared.chunk.Place.{Place}
use Rattle.heap_core.specs.HeapStore.{HeapStore, block_of, find_block, place_of}

-- the length of p's block, as it was asked for
abbrev pub length_of : ProcessNumber → Handle → HeapStore → Option ℕ
length_of p h heap = option_map length (block_of p h heap)

-- where p's block is, if it is live
abbrev pub live_place : ProcessNumber → Handle → HeapStore → Option Place
live_place p h heap = option_map place_of (find_block (number_of p h) heap)

-- the lengths that a header may have
abbrev pub IsHeaderLength : ℕ → Type 0
IsHeaderLength header = (header ≡ 16) ⊎ (header ≡ 8)

-- the sizes that a heap region may have
abbrev pub IsHeapSize : ℕ → Type 0
IsHeapSize size = (20 ≤ size) × (size ≤ region_limit) × (size % 4 ≡ 0)
