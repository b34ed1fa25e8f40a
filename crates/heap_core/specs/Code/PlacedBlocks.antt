-- The block of a live chunk: its position and its bytes.
use Rattle.std.specs.Prelude.{ℕ, ◌+◌, ◌-◌, not, List, [], filter, slice_range, Option, Some, None, ◌==◌}
use Rattle.heap_core.specs.declared.chunk.Chunk.{Chunk}
use Rattle.heap_core.specs.declared.chunk.Place.{Place}
use Rattle.heap_core.specs.HeapStore.{Block, HeapStore}

abbrev pub without_place : ℕ → HeapStore → HeapStore
without_place at heap = record heap { blocks = filter (λ (block : Block). not (block.at == at)) heap.blocks }

-- the position of a live chunk's block
abbrev pub place_in_chunk : ℕ → Chunk → Place
place_in_chunk header chunk = record { at = chunk.at; room = chunk.len - header }

abbrev pub at_place : ℕ → ℕ → Place
at_place at room = record { at = at; room = room }

-- the bytes of a live chunk's block
abbrev pub bytes_in_chunk : ℕ → List ℕ → ℕ → Chunk → List ℕ
bytes_in_chunk header bytes base chunk = slice_range bytes (base + chunk.at + header) (base + chunk.at + header + chunk.size)

-- the bytes that a new block gets: those of a live chunk, if one is named
abbrev pub bytes_given : ℕ → List ℕ → ℕ → Option Chunk → List ℕ
bytes_given header bytes base None = []
bytes_given header bytes base (Some chunk) = bytes_in_chunk header bytes base chunk

-- the block of a live chunk
abbrev pub block_in_chunk : ℕ → List ℕ → ℕ → ℕ → Chunk → Block
block_in_chunk header bytes base name chunk =
    record { name = name; at = chunk.at; room = chunk.len - header; bytes = bytes_in_chunk header bytes base chunk }
