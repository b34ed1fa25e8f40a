-- The chunks between positions.
use Rattle.std.specs.Prelude.{ℕ, List}
use Rattle.heap_core.specs.declared.chunk.Chunk.{Chunk}
use Rattle.heap_core.specs.declared.region.Region.{Region}
use Rattle.heap_core.specs.Code.Chunks.{chunks_from}

-- the chunks from a position on
unfoldable pub chunks_behind : Region → List ℕ → ℕ → List Chunk
chunks_behind heap bytes at = chunks_from heap.footprint bytes heap.span.at at heap.footprint
