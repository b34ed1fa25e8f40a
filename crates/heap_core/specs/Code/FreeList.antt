-- How the headers link the free chunks: the gaps, the lowest first, and the chunks that were freed and are not joined yet.
use Rattle.std.specs.Prelude.{◌≡◌, ◌≢◌, ℕ, not, List, [], ◌∷◌, ◌++◌, length, filter, Option, Some, None}
use Rattle.heap_core.specs.declared.chunk.Chunk.{Chunk}
use Rattle.heap_core.specs.declared.region.Region.{Region}
use Rattle.heap_core.specs.HeapStore.{Block}
use Rattle.heap_core.specs.Code.Chunks.{FREED, is_a_name, is_named}
use Rattle.heap_core.specs.Code.Layout.{chunks_of, store_of}

-- it is one of these chunks
pub record Stands (chunk : Chunk) (chunks : List Chunk) : Type 0 where
  pub before : List Chunk
  pub behind : List Chunk
  pub is : chunks ≡ before ++ (chunk ∷ behind)

-- it is a live one of these chunks
pub record LiveIn (chunk : Chunk) (chunks : List Chunk) : Type 0 where
  pub stands : Stands chunk chunks
  pub live : chunk.owner ≢ None

abbrev pub with_free : Chunk → Option ℕ → List Chunk → List Chunk
with_free chunk None chunks = chunk ∷ chunks
with_free chunk (Some name) chunks = chunks

-- the gaps among these chunks
abbrev pub gaps_among : List Chunk → List Chunk
gaps_among [] = []
gaps_among (chunk ∷ chunks) = with_free chunk chunk.owner (gaps_among chunks)

-- a list that begins there has this chunk next, if it is a gap
abbrev pub Meets : Option ℕ → Chunk → Option ℕ → Type 0
Meets head chunk None = head ≡ Some chunk.at
Meets head chunk (Some name) = Unit {0}

abbrev pub behind_link : Option ℕ → Chunk → Option ℕ → Option ℕ
behind_link head chunk None = chunk.link
behind_link head chunk (Some name) = head

-- the gaps among these chunks are linked from one position on, in their order, and the last is linked to the other position
abbrev pub LinkedTo : Option ℕ → List Chunk → Option ℕ → Type 0
LinkedTo head [] end = head ≡ end
LinkedTo head (chunk ∷ chunks) end = Meets head chunk chunk.owner × LinkedTo (behind_link head chunk chunk.owner) chunks end

-- none of these chunks begins there
abbrev pub NoneAt : ℕ → List Chunk → Type 0
NoneAt at [] = Unit {0}
NoneAt at (chunk ∷ chunks) = (chunk.at ≢ at) × NoneAt at chunks

-- these chunks were freed, and are linked from one position on
abbrev pub AreFreed : List Chunk → Option ℕ → List Chunk → Type 0
AreFreed all head [] = head ≡ None
AreFreed all head (chunk ∷ chunks) =
    (head ≡ Some chunk.at) × LiveIn chunk all × (chunk.owner ≡ Some FREED) × NoneAt chunk.at chunks × AreFreed all chunk.link chunks

-- the chunks that are no live block: gaps, and those that were freed and are not joined yet
abbrev pub free_chunks : Region → List ℕ → List Chunk
free_chunks heap bytes = filter (λ chunk. not (is_a_name chunk.owner)) (chunks_of heap bytes)

-- the blocks without a name
abbrev pub unnamed : List Block → List Block
unnamed blocks = filter (λ block. not (is_named block)) blocks

-- the list of the gaps
pub record GapsLinked (heap : Region) (bytes : List ℕ) : Type 0 where
  pub linked : LinkedTo heap.lowest (chunks_of heap bytes) None
  pub count : heap.gaps ≡ length (gaps_among (chunks_of heap bytes))

-- the list of the chunks that were freed and are not joined yet: each chunk without a name is in it
pub record FreedLinked (heap : Region) (bytes : List ℕ) : Type 0 where
  pub list : List Chunk
  pub linked : AreFreed (chunks_of heap bytes) heap.newest list
  pub count : length list ≡ heap.freed
  pub all : length (unnamed (store_of heap bytes).blocks) ≡ heap.freed
