-- How the headers, which are in the region, divide what is below the top gap into chunks: live blocks and gaps.
use Rattle.std.specs.Prelude.{◌≡◌, ◌≢◌, ℕ, zero, suc, ◌+◌, ◌-◌, ◌/◌, ◌%◌, ◌≤◌, max, Bool, false, List, [], ◌∷◌, slice_range, Option, Some, None, if◌then◌else◌, ◌==◌, nat_lt}
use Rattle.std.specs.Int.{from_le_bytes}
use mir.Syntax.{w32}
use Rattle.heap_core.specs.declared.chunk.Chunk.{Chunk}
use Rattle.heap_core.specs.HeapStore.{Block, least_room}

abbrev pub word_at : List ℕ → ℕ → ℕ
word_at bytes at = from_le_bytes w32 (slice_range bytes at (at + 4))

-- the number that half a word encodes: 0 is none
abbrev pub number_in : ℕ → Option ℕ
number_in word = if word == 0 then None else Some (word - 1)

-- the position that a link's word encodes: the highest word is none
abbrev pub place_in_link : ℕ → Option ℕ
place_in_link word = if word == 4294967295 then None else Some word

-- the owner of a chunk that was freed and is not joined yet: no name has that number
abbrev pub FREED : ℕ
FREED = 272

-- that owner is a name
abbrev pub is_a_name : Option ℕ → Bool
is_a_name None = false
is_a_name (Some name) = nat_lt name FREED

-- the owner is in the low half of a word, the size in the high one
abbrev pub owner_in : ℕ → Option ℕ
owner_in word = number_in (word % 65536)

abbrev pub size_in : ℕ → ℕ
size_in word = word / 65536

-- the link of a chunk with that owner: a live one has none, and its bytes may be where a free one has its link
abbrev pub link_in : Option ℕ → ℕ → Option ℕ
link_in owner word = if is_a_name owner then None else place_in_link word

-- the chunk at that offset of a region, as its header describes it. The region begins at base of these bytes
unfoldable pub chunk_at : List ℕ → ℕ → ℕ → Chunk
chunk_at bytes base at =
    let second = word_at bytes (base + at + 4) in
    record {
      at = at;
      len = word_at bytes (base + at);
      owner = owner_in second;
      size = size_in second;
      link = link_in (owner_in second) (word_at bytes (base + at + 8));
    }

-- the chunks from one offset to another, at most n of them
abbrev pub chunks_from : ℕ → List ℕ → ℕ → ℕ → ℕ → List Chunk
chunks_from zero bytes base at end = []
chunks_from (suc n) bytes base at end =
    let rest = chunks_from n bytes base (at + (chunk_at bytes base at).len) end in
    if nat_lt at end then chunk_at bytes base at ∷ rest else []

-- what a chunk needs: its header and its bytes, and no less than the words that may describe it, the third one a link
abbrev pub least_len : ℕ → Chunk → ℕ
least_len header chunk = max 12 (header + chunk.size)

-- the headers from one offset on describe these chunks, each as long as it needs, and the last ends at the other offset
abbrev pub Tell : ℕ → List ℕ → ℕ → ℕ → ℕ → List Chunk → Type 0
Tell header bytes base at end [] = at ≡ end
Tell header bytes base at end (chunk ∷ chunks) =
    (chunk_at bytes base at ≡ chunk) × (least_len header chunk ≤ chunk.len) × Tell header bytes base (at + chunk.len) end chunks

-- the first one is live
abbrev pub BeginsLive : List Chunk → Type 0
BeginsLive [] = ⊥
BeginsLive (chunk ∷ chunks) = chunk.owner ≢ None

-- the length of the shortest chunk
unfoldable pub shortest : ℕ → ℕ
shortest header = header + least_room header 1

-- its length is a multiple of 4, and no block could be shorter
abbrev pub IsWhole : ℕ → Chunk → Type 0
IsWhole header chunk = (shortest header ≤ chunk.len) × (chunk.len % 4 ≡ 0)

-- each chunk is whole, and directly after each gap is a live one: no two gaps adjoin, and none adjoins the top gap
abbrev pub AreJoined : ℕ → List Chunk → Type 0
AreJoined header [] = Unit {0}
AreJoined header (chunk ∷ chunks) = (chunk.owner ≡ None → BeginsLive chunks) × IsWhole header chunk × AreJoined header chunks

abbrev pub with_chunk : ℕ → List ℕ → ℕ → Chunk → Option ℕ → List Block → List Block
with_chunk header bytes base chunk None blocks = blocks
with_chunk header bytes base chunk (Some name) blocks =
    record {
      name = name;
      at = chunk.at;
      room = chunk.len - header;
      bytes = slice_range bytes (base + chunk.at + header) (base + chunk.at + header + chunk.size);
    }
    ∷ blocks

-- the blocks among these chunks, and those that were freed and are not joined yet
abbrev pub blocks_in : ℕ → List ℕ → ℕ → List Chunk → List Block
blocks_in header bytes base [] = []
blocks_in header bytes base (chunk ∷ chunks) = with_chunk header bytes base chunk chunk.owner (blocks_in header bytes base chunks)

-- it has a name: chunks that were freed and are not joined yet have none
abbrev pub is_named : Block → Bool
is_named block = nat_lt block.name FREED
