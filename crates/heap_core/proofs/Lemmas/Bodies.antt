-- A write into a live block's bytes.
use Rattle.heap_core.proofs.Lemmas.Words.{◌≡◌, ℕ, ◌+◌, ◌-◌, ◌≤◌, ◌<◌, List, [], ◌∷◌, ◌++◌, length, slice_range, true, not, refl, sym, ap, ◌∙◌, arith, Some, IsSomeAnd, filter, map, if◌then◌else◌, append_assoc, map-append, length-map, filter-append, eq-eqb, number_of, overwritten, ChangesOnly, written, length-range, written-range, changes_only, written_is, Chunk, Region, Block, HeapStore, has_name, block_of, find_block, without_block, is_a_name, blocks_in, is_named, heap_of, chunks_of, store_of, Owned, Spliced, block_in_chunk, without_place, unnamed, ◌≢◌, ◌⊎◌, Option, find, option_map, LiesIn, AreApart, IsLaidOut, extent_of, bytes_behind_header, BlocksLieApart, None, range_of, LieInOrder, end_of, Tell}
use Rattle.heap_core.proofs.Lemmas.Names.{IsStored, count_append, map_unnamed, filter_unnamed}
use Rattle.heap_core.proofs.Lemmas.ChunkHeaders.{store_with, live_frame, changes_more, count, elsewhere, swapped, Around, around, place_told, told_le}
use Rattle.heap_core.proofs.Lemmas.Freed.{all_blocks, filter_swap, filter_map, all_bytes, in_order, live_of, named_here, named_skip, owner_named}
use Rattle.heap_core.proofs.Lemmas.Lists.{cut_at, cut_left}

module _ {heap : Region} {B : List ℕ} (laid : IsStored heap B) {chunk : Chunk} {name : ℕ} (small : name < 272)
    (o : Owned name chunk (chunks_of heap B)) where
  abbrev b : ℕ
  b = heap.span.at

  pub a : Around heap B chunk
  a = around laid.chunks o.stands

  abbrev block : Block
  block = block_in_chunk heap.header B b name chunk

  abbrev xs : List Block
  xs = blocks_in heap.header B b a.before

  abbrev ys : List Block
  ys = blocks_in heap.header B b a.behind

  pub all_are : blocks_in heap.header B b (chunks_of heap B) ≡ xs ++ (block ∷ ys)
  all_are = all_blocks a o.owner

  counts : count name xs + (1 + count name ys) ≤ 1
  counts =
      let one : count name (xs ++ (block ∷ ys)) ≤ 1 = grind (arith, all_are) in
      grind (arith, count_append)

  pub few : (count name xs ≡ 0) × (count name ys ≡ 0)
  few = grind (arith, counts)

  pub block_bytes : length (slice_range B (b + chunk.at + heap.header) (b + chunk.at + heap.header + chunk.size)) ≡ chunk.size
  block_bytes = length-range B (b + chunk.at + heap.header) chunk.size (omega (arith, a.fits, a.enough, heap.inside))

  pub range_fits : (store : HeapStore) (p h at len : ℕ) → name ≡ number_of p h → find_block name store ≡ Some block
      → IsSomeAnd (block_of p h store) (λ bytes. at + len ≤ length bytes) → at + len ≤ chunk.size
  range_fits store p h at len same found range = grind (arith, block_bytes)

  -- by its position, or by its name
  by_name : filter (elsewhere chunk.at) (blocks_in heap.header B b (chunks_of heap B))
      ≡ filter (λ (other : Block). not (has_name name other)) (blocks_in heap.header B b (chunks_of heap B))
  by_name = grind (arith, all_are, filter-append, filter_unnamed, few, cut_left (cut_at a))

  pub without_place_is : without_place chunk.at (store_of heap B) ≡ without_block name (store_of heap B)
  without_place_is = ap (store_with heap) by_name

  -- also among the live blocks
  pub live_without_place : without_place chunk.at (heap_of heap B) ≡ without_block name (heap_of heap B)
  live_without_place = grind (arith, filter_swap, by_name)

  module _ (at : ℕ) (ws : List ℕ) (room : at + length ws ≤ chunk.size) where
    abbrev B' : List ℕ
    B' = written B (b + chunk.at + heap.header + at) ws

    fits : b + chunk.at + heap.header + at + length ws ≤ length B
    fits = omega (arith, a.fits, a.enough)

    changes : ChangesOnly (b + chunk.at + heap.header) (chunk.len - heap.header) B B'
    changes = changes_only B (b + chunk.at + heap.header + at) ws fits (b + chunk.at + heap.header) (chunk.len - heap.header) (omega arith)
        (omega (arith, a.enough))

    read : slice_range B' (b + chunk.at + heap.header) (b + chunk.at + heap.header + chunk.size) ≡ overwritten at ws
        (slice_range B (b + chunk.at + heap.header) (b + chunk.at + heap.header + chunk.size))
    read = grind (arith, written-range, a, written_is, block_bytes, append_assoc)

    is_named_owner : is_a_name chunk.owner ≡ true
    is_named_owner = grind arith

    pub body_spliced : Spliced heap heap B B' a.before (chunk ∷ []) a.behind
    body_spliced = swapped a chunk refl refl refl
        (changes_more changes (omega arith)
        (omega (arith, a.enough)))
        (live_frame B B' b (b + chunk.at + heap.header) (chunk.len - heap.header) changes chunk.at chunk a.here is_named_owner
        (omega arith))
        refl a.enough ((λ live. live), (λ none. none))

    abbrev over : Block → Block
    over = λ other. let new = record other { bytes = overwritten at ws other.bytes } in new

    pub body_blocks : blocks_in heap.header B' b (chunks_of heap B') ≡ map (λ other. if has_name name other then over other else other)
        (blocks_in heap.header B b (chunks_of heap B))
    body_blocks = let here = eq-eqb name name refl in
        let new : blocks_in heap.header B' b (chunk ∷ []) ≡ over block ∷ [] = grind (arith, read) in
        grind (arith, map-append, map_unnamed name over ys few.1, map_unnamed name over xs few.0, all_are, body_spliced)

    abbrev change : Block → Block
    change = λ other. if has_name name other then over other else other

    pub live_blocks : filter is_named (blocks_in heap.header B' b (chunks_of heap B'))
        ≡ map change (filter is_named (blocks_in heap.header B b (chunks_of heap B)))
    live_blocks = grind (arith, body_blocks, filter_map)

    pub same_chunks : chunks_of heap B' ≡ chunks_of heap B
    same_chunks = body_spliced.is ∙ sym a.is

    pub same_unnamed : length (unnamed (blocks_in heap.header B' b (chunks_of heap B')))
        ≡ length (unnamed (blocks_in heap.header B b (chunks_of heap B)))
    same_unnamed = grind (arith, body_blocks, filter_map, length-map)

-- The live blocks are apart in the arena.
module _ (header : ℕ) where
  lies : (from size name : ℕ) (one : Block) (xs : List Block) → LieInOrder header from xs size → find (has_name name) xs ≡ Some one
      → (from ≤ one.at) × (length one.bytes ≤ one.room) × (end_of header one ≤ size)
  lies from size name one [] h e = absurd (cc)
  lies from size name one (x ∷ xs) h e =
      grind (arith, all_bytes header (end_of header x) size xs h.2, lies (end_of header x) size name one xs h.2)

  lie_apart : (from size name name' : ℕ) (one other : Block) (xs : List Block) → name ≢ name' → LieInOrder header from xs size
      → find (has_name name) xs ≡ Some one → find (has_name name') xs ≡ Some other
      → (end_of header one ≤ other.at) ⊎ (end_of header other ≤ one.at)
  lie_apart from size name name' one other [] ne h e e' = absurd (cc)
  lie_apart from size name name' one other (x ∷ xs) ne h e e' =
      grind (
        arith,
        lies (end_of header x) size name' other xs h.2,
        lies (end_of header x) size name one xs h.2,
        lie_apart
            (end_of header x) size name name' one other xs ne h.2,
      )

  -- its bytes are those after its header
  reads : (B : List ℕ) (b size name x z : ℕ) (block : Block) (l : List Chunk) → b + size ≤ length B → z ≤ size → Tell header B b x z l
      → find (has_name name) (live_of header B b l) ≡ Some block → block.bytes ≡ range_of (b + block.at + header) (length block.bytes) B
  reads B b size name x z block [] fits most t e = absurd (cc)
  reads B b size name x z block (c ∷ l) fits most t e =
      grind (
        arith,
        told_le,
        owner_named,
        named_here,
        length-range,
        named_skip,
        reads B b size name
            (x + c.len) z block l fits most t.2,
        place_told B b x c t.0,
        t.1,
      )

module _ {heap : Region} {B : List ℕ} (laid : IsLaidOut heap B) where
  read_as : (name : ℕ) (o : Option Block) → find_block name (heap_of heap B) ≡ o
      → option_map (λ (block : Block). block.bytes) o ≡ option_map (bytes_behind_header heap B) o
  read_as name None e = refl
  read_as name (Some block) e = ap Some (reads heap.header B heap.span.at heap.span.len name 0 heap.footprint block (chunks_of heap B)
      laid.chunks.within heap.inside laid.chunks.told e)

  inside : (name : ℕ) (block : Block) → find_block name (heap_of heap B) ≡ Some block
      → (length block.bytes ≤ block.room) × LiesIn heap.span (extent_of heap block)
  inside name block e =
      grind (arith, lies heap.header 0 heap.span.len name block (heap_of heap B).blocks (in_order laid.chunks) e)

  apart : (name name' : ℕ) (one other : Block) → name ≢ name' → find_block name (heap_of heap B) ≡ Some one
      → find_block name' (heap_of heap B) ≡ Some other → AreApart (extent_of heap one) (extent_of heap other)
  apart name name' one other ne e e' =
      grind (arith, lie_apart heap.header 0 heap.span.len name name' one other (heap_of heap B).blocks ne (in_order laid.chunks) e e')

  pub blocks_lie_apart : BlocksLieApart heap B
  blocks_lie_apart = record {
    read = λ p h. read_as (number_of p h) (find_block (number_of p h) (heap_of heap B)) refl;
    room = λ p h block e. (inside (number_of p h) block e).0;
    inside = λ p h block e. (inside (number_of p h) block e).1;
    apart = grind (arith, apart);
  }
