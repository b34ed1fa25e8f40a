-- Chunks that go and chunks that replace them, and bytes between chunks into which a live chunk may be put.
use Rattle.std.specs.Prelude.{◌≡◌, ◌≢◌, ℕ, ◌+◌, ◌-◌, ◌%◌, ◌≤◌, ◌<◌, ◌⊎◌, List, [], ◌∷◌, ◌++◌, length, Option, Some, None, IsSomeAnd}
use Rattle.arena_core.specs.Code.Outside.{ChangesOnly}
use Rattle.heap_core.specs.declared.chunk.Chunk.{Chunk}
use Rattle.heap_core.specs.declared.chunk.Place.{Place}
use Rattle.heap_core.specs.declared.region.Region.{Region}
use Rattle.heap_core.specs.HeapStore.{Block}
use Rattle.heap_core.specs.Code.Chunks.{Tell, BeginsLive, IsWhole, AreJoined, with_chunk, blocks_in, shortest}
use Rattle.heap_core.specs.Code.Layout.{chunks_of, store_of, HasChunks}
use Rattle.heap_core.specs.Code.FreeList.{LinkedTo, gaps_among, LiveIn}
use Rattle.heap_core.specs.Code.Links.{gap_count, gap_from}
use Rattle.heap_core.specs.Code.FreeBytes.{LeavesGap, IsWholeRoom}
use Rattle.heap_core.specs.Code.PlacedBlocks.{without_place}

-- those of these chunks that are no gaps begin at that position
abbrev pub OnlyAt : ℕ → List Chunk → Type 0
OnlyAt at [] = Unit {0}
OnlyAt at (chunk ∷ chunks) = (chunk.owner ≢ None → chunk.at ≡ at) × OnlyAt at chunks

-- the chunks from one position to another may go: only gaps, and one chunk that begins at a position between
pub record Cut (heap : Region) (bytes : List ℕ) (from end at : ℕ) : Type 0 where
  pub has : HasChunks heap bytes
  pub before : List Chunk
  pub gone : List Chunk
  pub behind : List Chunk
  pub is : chunks_of heap bytes ≡ before ++ (gone ++ behind)
  pub front : Tell heap.header bytes heap.span.at 0 from before
  pub mid : Tell heap.header bytes heap.span.at from end gone
  pub back : Tell heap.header bytes heap.span.at end heap.footprint behind
  pub only : OnlyAt at gone
  pub low : from ≤ at
  pub high : (at < end) ⊎ (behind ≡ [])

-- the first one after them is live, or nothing follows
abbrev pub EndsHole : List Chunk → Type 0
EndsHole behind = (behind ≡ []) ⊎ BeginsLive behind

-- some chunks are between others, whose headers and bytes did not change
pub record Spliced (old new : Region) (bytes new_bytes : List ℕ) (before mid behind : List Chunk) : Type 0 where
  pub has : HasChunks new new_bytes
  pub is : chunks_of new new_bytes ≡ before ++ (mid ++ behind)
  pub store :
      store_of new new_bytes
      ≡ record {
        size = old.span.len;
        header = old.header;
        blocks = blocks_in old.header bytes old.span.at before
            ++ (blocks_in old.header new_bytes old.span.at mid ++ blocks_in old.header bytes old.span.at behind);
      }

-- these bytes end where the hole does, or leave a whole gap before that; up to the top gap any number will do
abbrev pub Leaves : Region → ℕ → ℕ → Type 0
Leaves heap next end = (end ≡ heap.footprint) ⊎ ((next ≡ end) ⊎ LeavesGap heap.header next end)

-- what is left from one position to another is a gap, linked so, or a part of the top gap, or nothing. Any chunks after it stay
-- so
pub record Left (old new : Region) (bytes new_bytes : List ℕ) (from end : ℕ) (first link : Option ℕ) : Type 0 where
  pub mid : List Chunk
  pub to : ℕ
  pub told : Tell old.header new_bytes old.span.at from to mid
  pub changes : ChangesOnly (old.span.at + from) (to - from) bytes new_bytes
  pub linked : LinkedTo first mid link
  pub count : new.gaps ≡ old.gaps + length (gaps_among mid)
  pub free : (other : List ℕ) → blocks_in old.header other old.span.at mid ≡ []
  pub behind : (other : List ℕ) (behind : List Chunk) → Tell old.header other old.span.at end old.footprint behind → EndsHole behind
      → AreJoined old.header behind → Tell old.header other old.span.at to new.footprint behind × AreJoined old.header (mid ++ behind)

-- a live chunk that has its header and its bytes in a hole, which ends there or leaves a gap
pub record Fits (heap : Region) (live : Chunk) (end : ℕ) : Type 0 where
  pub inside : live.at + live.len ≤ heap.span.len
  pub rest : Leaves heap (live.at + live.len) end
  pub most : end ≤ heap.footprint
  pub room : heap.header + live.size ≤ live.len
  pub whole : IsWhole heap.header live
  pub owner : IsSomeAnd live.owner (λ name. name < 272)
  pub link : live.link ≡ None

-- That chunk was put between the others, and what is left after it is a gap. The gaps made are linked from first to link.
pub record Laid (heap new : Region) (bytes old_bytes new_bytes : List ℕ) (live : Chunk) (before behind : List Chunk)
    (first link : Option ℕ) : Type 0 where
  pub mid : List Chunk
  pub spliced : Spliced heap new bytes new_bytes before mid behind
  pub linked : LinkedTo first mid link
  pub count : new.gaps ≡ heap.gaps + length (gaps_among mid)
  pub blocks : blocks_in heap.header new_bytes heap.span.at mid ≡ with_chunk heap.header old_bytes heap.span.at live live.owner []

-- bytes for a block of n bytes: what is there goes, and that many gaps with it; these blocks stay
pub record Room (heap : Region) (bytes : List ℕ) (target : Place) (end n taken : ℕ) (olds : List Block) : Type 0 where
  pub cut : Cut heap bytes target.at end target.at
  pub ends : EndsHole cut.behind
  pub count : length (gaps_among cut.gone) ≡ taken
  pub inside : target.at + (heap.header + target.room) ≤ heap.span.len
  pub rest : Leaves heap (target.at + (heap.header + target.room)) end
  pub most : end ≤ heap.footprint
  pub whole : IsWholeRoom heap.header target.room
  pub enough : n ≤ target.room
  pub blocks : olds ≡ blocks_in heap.header bytes heap.span.at cut.before ++ blocks_in heap.header bytes heap.span.at cut.behind

-- a chunk that is no gap reaches from one position to another with the gaps beside it
pub record ReachesWithGaps (heap : Region) (bytes : List ℕ) (chunk : Chunk) (from end : ℕ) : Type 0 where
  pub cut : Cut heap bytes from end chunk.at
  pub ends : EndsHole cut.behind
  pub count : length (gaps_among cut.gone) ≡ gap_count (chunk.at - from) + gap_count (end - (chunk.at + chunk.len))
  pub long : 12 ≤ chunk.len
  pub high : chunk.at + chunk.len ≤ end
  pub most : end ≤ heap.footprint
  pub whole : (shortest heap.header ≤ end - from) × ((end - from) % 4 ≡ 0)
  pub joined : (chunks : List Chunk) → AreJoined heap.header chunks → AreJoined heap.header (cut.before ++ chunks)
  pub joined_behind : AreJoined heap.header cut.behind
  -- a gap below it is one that the list of the gaps leads to
  pub grows : from < chunk.at → gap_from from (gaps_among (chunks_of heap bytes)) ≡ Some from

-- A chunk and the gaps beside it, from one position to another, became one gap or a part of the top gap. The gaps that they were
-- are still counted.
pub record Cleared (old new : Region) (bytes new_bytes : List ℕ) (chunk : Chunk) (from end : ℕ) (first link : Option ℕ) : Type 0 where
  pub cut : Cut old bytes from end chunk.at
  pub mid : List Chunk
  pub spliced : Spliced old new bytes new_bytes cut.before mid cut.behind
  pub linked : LinkedTo first mid link
  pub chunks : HasChunks new new_bytes
  pub count :
      new.gaps ≡ length (gaps_among (chunks_of new new_bytes)) + (gap_count (chunk.at - from) + gap_count (end - (chunk.at + chunk.len)))
  pub block : store_of new new_bytes ≡ without_place chunk.at (store_of old bytes)
  pub others : (other : Chunk) → LiveIn other (chunks_of old bytes) → other.at ≢ chunk.at → LiveIn other (chunks_of new new_bytes)
