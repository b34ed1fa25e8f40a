-- What setting a chunk aside keeps, and what joining those that were freed with the gaps beside them keeps.
use Rattle.std.specs.Prelude.{◌≡◌, ◌≢◌, ℕ, List}
use Rattle.arena_core.specs.Code.Contents.{Contents}
use Rattle.heap_core.specs.declared.chunk.Chunk.{Chunk}
use Rattle.heap_core.specs.declared.region.Region.{Region}
use Rattle.heap_core.specs.HeapStore.{HeapStore}
use Rattle.heap_core.specs.Code.HeapBytes.{heap_of, KeepsToSpan}
use Rattle.heap_core.specs.Code.Layout.{chunks_of, store_of, HasChunks}
use Rattle.heap_core.specs.Code.FreeList.{LiveIn, GapsLinked, FreedLinked}
use Rattle.heap_core.specs.Code.Links.{KeepsFreed}
use Rattle.heap_core.specs.Code.PlacedBlocks.{without_place}

-- the chunk at this position changed, and the chunks that are no gaps are these blocks. Every other live chunk stays
pub record Changed (old new : Region) (before after : Contents) (at : ℕ) (store : HeapStore) : Type 0 where
  pub chunks : HasChunks new after.bytes
  pub gaps : GapsLinked new after.bytes
  pub block : store_of new after.bytes ≡ store
  pub others : (other : Chunk) → LiveIn other (chunks_of old before.bytes) → other.at ≢ at → LiveIn other (chunks_of new after.bytes)
  pub kept : KeepsFreed old new
  pub rest : KeepsToSpan old new before after

-- a block's chunk was set aside: the other blocks stay
pub record Aside (old new : Region) (bytes new_bytes : List ℕ) (chunk : Chunk) : Type 0 where
  pub chunks : HasChunks new new_bytes
  pub block : heap_of new new_bytes ≡ without_place chunk.at (heap_of old bytes)
  pub gaps : GapsLinked new new_bytes
  pub freed : FreedLinked new new_bytes

-- every block keeps its position, its room and its bytes
pub record Joins (old new : Region) (before after : Contents) : Type 0 where
  pub chunks : HasChunks new after.bytes
  pub gaps : GapsLinked new after.bytes
  pub freed : FreedLinked new after.bytes
  pub blocks : heap_of new after.bytes ≡ heap_of old before.bytes
  pub places : new.places ≡ old.places
  pub rest : KeepsToSpan old new before after
