-- Where the free list leads, and what a change of it preserves.
use Rattle.std.specs.Prelude.{◌≡◌, ℕ, ◌+◌, ◌≤◌, ◌<◌, List, [], ◌∷◌, ◌++◌, length, fold, ◌⊎◌, Option, Some, None, IfSome, IsSomeAnd, if◌then◌else◌, ◌==◌, nat_lt}
use Rattle.std.specs.Option.{option_map}
use Rattle.heap_core.specs.declared.chunk.Candidate.{Candidate}
use Rattle.heap_core.specs.declared.chunk.Chunk.{Chunk}
use Rattle.heap_core.specs.declared.chunk.Gap.{Gap}
use Rattle.heap_core.specs.declared.region.Region.{Region}
use Rattle.heap_core.specs.Code.Chunks.{chunk_at}
use Rattle.heap_core.specs.Code.FreeList.{GapsLinked, gaps_among, LinkedTo, LiveIn}
use Rattle.heap_core.specs.Code.Layout.{chunks_of, store_of, HasChunks}

-- the number of gaps that n free bytes make
abbrev pub gap_count : ℕ → ℕ
gap_count len = if len == 0 then 0 else 1

-- these are all chunks along the links from a position on: gaps between two positions, the lowest first
abbrev pub Follow : List ℕ → ℕ → ℕ → ℕ → Option ℕ → List Chunk → Type 0
Follow bytes base from end head [] = head ≡ None
Follow bytes base from end head (chunk ∷ chunks) =
    (head ≡ Some chunk.at) × (chunk_at bytes base chunk.at ≡ chunk) × (chunk.owner ≡ None) × (from ≤ chunk.at) × (chunk.at + 12 ≤ end)
    × Follow bytes base (chunk.at + 1) end chunk.link chunks

-- the highest of these ascending gaps below a position, or the one found before
abbrev pub below_from : ℕ → Option Chunk → List Chunk → Option Chunk
below_from at found [] = found
below_from at found (gap ∷ gaps) = if nat_lt gap.at at then below_from at (Some gap) gaps else found

abbrev pub gap_below : ℕ → List Chunk → Option Chunk
gap_below at gaps = below_from at None gaps

abbrev pub place_below : ℕ → List Chunk → Option ℕ
place_below at gaps = option_map (λ (gap : Chunk). gap.at) (gap_below at gaps)

-- the position of the lowest gap from a position on
abbrev pub gap_from : ℕ → List Chunk → Option ℕ
gap_from at [] = None
gap_from at (gap ∷ gaps) = if nat_lt gap.at at then gap_from at gaps else Some gap.at

-- A walk to the gaps beside a position may begin there: at the lowest gap, or at one below the position
abbrev pub Starts : Region → List ℕ → ℕ → Option ℕ → Type 0
Starts heap bytes at start =
    (start ≡ heap.lowest) ⊎ IsSomeAnd start (λ place. (place < at) × (gap_from place (gaps_among (chunks_of heap bytes)) ≡ Some place))

-- the gap that a search has found so far
abbrev pub gap_found : Candidate → Option Gap
gap_found best = if best.len == 4294967296 then None else Some (record { at = best.at; len = best.len })

-- the highest of these gaps
abbrev pub last_of : List Chunk → Option Chunk
last_of gaps = fold (λ _ gap. Some gap) None gaps

-- whatever chunks come first: if that gap was the last one among them, the gaps are linked again, where those after them are
-- linked from that position on
abbrev pub Relinked : Region → Region → List ℕ → List ℕ → Option Chunk → Option ℕ → Type 0
Relinked old new bytes new_bytes last first =
    (before behind : List Chunk) (end : Option ℕ) → chunks_of old bytes ≡ before ++ behind → last ≡ last_of (gaps_among before)
    → LinkedTo old.lowest before end → LinkedTo first behind None → LinkedTo new.lowest (chunks_of new new_bytes) None

-- the gaps are linked so, and every chunk stays
pub record LinkChanged (old new : Region) (bytes new_bytes : List ℕ) (last : Option Chunk) (first : Option ℕ) : Type 0 where
  pub chunks : HasChunks new new_bytes
  pub block : store_of new new_bytes ≡ store_of old bytes
  pub stands : (other : Chunk) → LiveIn other (chunks_of old bytes) → LiveIn other (chunks_of new new_bytes)
  pub linked : Relinked old new bytes new_bytes last first
  pub gaps : new.gaps ≡ old.gaps
  pub count : length (gaps_among (chunks_of new new_bytes)) ≡ length (gaps_among (chunks_of old bytes))

-- the headers describe chunks, and the gaps among them are linked
pub record HasGapList (heap : Region) (bytes : List ℕ) : Type 0 where
  pub chunks : HasChunks heap bytes
  pub linked : LinkedTo heap.lowest (chunks_of heap bytes) None

-- the headers describe chunks, and the gaps among them are linked and counted
pub record IsDivided (heap : Region) (bytes : List ℕ) : Type 0 where
  pub chunks : HasChunks heap bytes
  pub gaps : GapsLinked heap bytes

-- a link that a header has room for
abbrev pub IsLink : Option ℕ → Type 0
IsLink link = IfSome link (λ place. place < 65536)

-- what is stored besides the gaps is unchanged
pub record KeepsFreed (old new : Region) : Type 0 where
  pub places : new.places ≡ old.places
  pub newest : new.newest ≡ old.newest
  pub freed : new.freed ≡ old.freed
