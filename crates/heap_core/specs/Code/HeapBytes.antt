-- What the bytes of a heap's span stand for.
use Rattle.std.specs.Prelude.{◌≡◌, ℕ, ◌+◌, ◌≤◌, List, length, filter}
use Rattle.arena_core.specs.Code.Contents.{Contents}
use Rattle.arena_core.specs.Code.Outside.{ChangesOnly}
use Rattle.heap_core.specs.declared.heap.Heap.{Heap}
use Rattle.heap_core.specs.HeapStore.{HeapStore, has_name}
use Rattle.heap_core.specs.Code.Chunks.{is_named}
use Rattle.heap_core.specs.Code.Layout.{store_of, HasChunks}
use Rattle.heap_core.specs.Code.FreeList.{GapsLinked, FreedLinked}
use Rattle.heap_core.specs.Code.Places.{ArePlaced}

-- The live blocks and where they are; freed chunks are not among them. Of the arena's bytes it reads only the span's.
abbrev pub heap_of : Heap → List ℕ → HeapStore
heap_of heap bytes = record { size = heap.span.len; header = heap.header; blocks = filter is_named (store_of heap bytes).blocks }

-- the heap's span is in these bytes
abbrev pub IsWithin : Heap → List ℕ → Type 0
IsWithin heap bytes = heap.span.at + heap.span.len ≤ length bytes

-- the bytes of the heap's span are as the heap's calls left them
pub record IsLaidOut (heap : Heap) (bytes : List ℕ) : Type 0 where
  pub chunks : HasChunks heap bytes
  -- no name has two blocks
  pub named : (name : ℕ) → length (filter (has_name name) (heap_of heap bytes).blocks) ≤ 1
  pub places : ArePlaced heap.places (heap_of heap bytes)
  pub gaps : GapsLinked heap bytes
  pub freed : FreedLinked heap bytes

-- the number of chunks in the free list: those that were freed and are not joined yet, and after them the gaps. These are
-- all free chunks (`linked`)
abbrev pub linked_of : Heap → ℕ
linked_of heap = heap.freed + heap.gaps

-- the heap keeps its span and its header's length, and of the arena only bytes of that span changed
pub record KeepsToSpan (old new : Heap) (old_arena new_arena : Contents) : Type 0 where
  pub span : new.span ≡ old.span
  pub header : new.header ≡ old.header
  pub carved : new_arena.carved ≡ old_arena.carved
  pub bytes : ChangesOnly old.span.at old.span.len old_arena.bytes new_arena.bytes
