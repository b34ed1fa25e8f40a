-- The chunks of a heap, as its bytes describe them.
use Rattle.std.specs.Prelude.{ℕ, ◌+◌, ◌≤◌, List, length}
use Rattle.heap_core.specs.declared.chunk.Chunk.{Chunk}
use Rattle.heap_core.specs.declared.region.Region.{Region}
use Rattle.heap_core.specs.HeapStore.{HeapStore}
use Rattle.heap_core.specs.Code.Chunks.{chunks_from, Tell, AreJoined, blocks_in}

-- all chunks, up to the footprint
unfoldable pub chunks_of : Region → List ℕ → List Chunk
chunks_of heap bytes = chunks_from heap.footprint bytes heap.span.at 0 heap.footprint

-- all chunks but the gaps as blocks: the live ones, and those that were freed and are not joined yet
abbrev pub store_of : Region → List ℕ → HeapStore
store_of heap bytes =
    record { size = heap.span.len; header = heap.header; blocks = blocks_in heap.header bytes heap.span.at (chunks_of heap bytes) }

-- the headers in the heap's span describe chunks without a break, and the gaps among them are joined
pub record HasChunks (heap : Region) (bytes : List ℕ) : Type 0 where
  pub within : heap.span.at + heap.span.len ≤ length bytes
  pub told : Tell heap.header bytes heap.span.at 0 heap.footprint (chunks_of heap bytes)
  pub joined : AreJoined heap.header (chunks_of heap bytes)
