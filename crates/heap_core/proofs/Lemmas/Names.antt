-- The block of a name, and the number of blocks of a name.
use Rattle.heap_core.proofs.Lemmas.Words.{◌≡◌, ◌≢◌, ℕ, ◌+◌, ◌≤◌, Bool, true, not, List, [], ◌∷◌, ◌++◌, length, refl, sym, ap, ◌∙◌, arith, Option, Some, None, IsSome, filter, find, map, if◌then◌else◌, option_map, length-append, filter-append, Chunk, Block, has_name, placed, blocks_in, owned_by, Owned, block_in_chunk, ◌<◌, false, Region, IsLaidOut, heap_of, is_named, chunks_of, find_block, number_of, store_of, HasChunks, ArePlaced, rules, get_or, slice_set, replicate, zero, suc, get_or-set_same, get_or-set_other, length-set, eq-eqb, Place, HeapStore, with_block, without_block, block_at, chunk_at, place_found}
use Rattle.heap_core.proofs.Lemmas.ChunkHeaders.{count, around, In, stands_of}

pub map_none : {X Y : Type 0} (f : X → Y) (o : Option X) → option_map f o ≡ None → o ≡ None
map_none f o e = grind arith

module _ (name : ℕ) where
  owned_in : (chunk : Chunk) (l : List Chunk) → find (owned_by name) l ≡ Some chunk → In chunk l × (chunk.owner ≡ Some name)
  owned_in chunk [] e = absurd (cc)
  owned_in chunk (c ∷ l) e = grind (arith, owned_in chunk l)

  pub owned : (chunk : Chunk) (l : List Chunk) → find (owned_by name) l ≡ Some chunk → Owned name chunk l
  owned chunk l e = let k = owned_in chunk l e in record { stands = stands_of chunk l k.0; owner = k.1 }

  pub count_append : (xs ys : List Block) → count name (xs ++ ys) ≡ count name xs + count name ys
  count_append xs ys = grind (arith, filter-append, length-append)

  pub count_absent : (xs : List Block) → find (has_name name) xs ≡ None → count name xs ≡ 0
  count_absent [] e = refl
  count_absent (x ∷ xs) e = grind (arith, count_absent xs)

  pub count_filter : (p : Block → Bool) (xs : List Block) → count name (filter p xs) ≤ count name xs
  count_filter p [] = omega arith
  count_filter p (x ∷ xs) = grind (arith, count_filter p xs)

  pub filter_unnamed : (xs : List Block) → count name xs ≡ 0 → filter (λ block. not (has_name name block)) xs ≡ xs
  filter_unnamed [] e = refl
  filter_unnamed (x ∷ xs) e = grind (arith, filter_unnamed xs)

  pub count_unnamed : (xs : List Block) → count name (filter (λ block. not (has_name name block)) xs) ≡ 0
  count_unnamed [] = refl
  count_unnamed (x ∷ xs) = grind (arith, count_unnamed xs)

  pub find_named : (xs : List Block) → name < 272 → find (has_name name) (filter is_named xs) ≡ find (has_name name) xs
  find_named [] small = refl
  find_named (x ∷ xs) small = grind (arith, find_named xs small)

  pub count_named : (xs : List Block) → name < 272 → filter (has_name name) (filter is_named xs) ≡ filter (has_name name) xs
  count_named [] small = refl
  count_named (x ∷ xs) small = grind (arith, count_named xs small)

  module _ (f : Block → Block) where
    pub map_unnamed : (xs : List Block) → count name xs ≡ 0
        → map (λ block. if has_name name block then f block else block) xs ≡ xs
    map_unnamed [] e = refl
    map_unnamed (x ∷ xs) e = grind (arith, map_unnamed xs)

    pub count_map : ((block : Block) → (f block).name ≡ block.name) → (xs : List Block)
        → count name (map f xs) ≡ count name xs
    count_map keeps [] = refl
    count_map keeps (x ∷ xs) = grind (arith, count_map keeps xs)

    pub keeps_name : ((block : Block) → (f block).name ≡ block.name) → (block : Block)
        → (if has_name name block then f block else block).name ≡ block.name
    keeps_name keeps block = grind arith

    pub keeps_place : ((block : Block) → (f block).at ≡ block.at) → (block : Block)
        → (if has_name name block then f block else block).at ≡ block.at
    keeps_place keeps block = grind arith

  module _ (block : Block) where
    count_placed : (xs : List Block) → count name (placed block xs) ≡ count name (block ∷ xs)
    count_placed [] = refl
    count_placed (other ∷ xs) = grind (arith, count_placed xs)

    module _ (xs : List Block) where
      pub named_with : count block.name xs ≡ 0 → count name xs ≤ 1
          → count name (placed block xs) ≤ 1
      named_with none few = grind (arith, count_placed)

abbrev pub nowhere : Option ℕ
nowhere = None

pub none_placed : (n name : ℕ) → get_or (replicate n nowhere) name nowhere ≡ nowhere
none_placed zero name = refl
none_placed (suc n) zero = refl
none_placed (suc n) (suc name) = none_placed n name

-- one entry is set, for the one block that changed
module _ (places : List (Option ℕ)) (old new : HeapStore) (name : ℕ) (entry : Option ℕ) (small : name < 272)
    (others : (other : ℕ) → other ≢ name → find_block other new ≡ find_block other old) (mine : place_found name new ≡ entry) where
  pub placed_set : ArePlaced places old → ArePlaced (slice_set places name entry) new
  placed_set were = grind (arith, length-set, get_or-set_same, get_or-set_other)

module _ (name : ℕ) where
  find_without : (gone : ℕ) (blocks : List Block) → name ≢ gone
      → find (has_name name) (filter (λ block. not (has_name gone block)) blocks) ≡ find (has_name name) blocks
  find_without gone [] ne = refl
  find_without gone (block ∷ blocks) ne = grind (arith, find_without gone blocks ne)

  find_gone : (blocks : List Block) → find (has_name name) (filter (λ block. not (has_name name block)) blocks) ≡ None
  find_gone [] = refl
  find_gone (block ∷ blocks) = grind (arith, find_gone blocks)

  pub find_map : (f : Block → Block) → ((block : Block) → (f block).name ≡ block.name)
      → ((block : Block) → (f block).at ≡ block.at) → (blocks : List Block)
      → option_map (λ (block : Block). block.at) (find (has_name name) (map f blocks)) ≡ option_map (λ (block : Block). block.at)
      (find (has_name name) blocks)
  find_map f keeps stays [] = refl
  find_map f keeps stays (block ∷ blocks) = grind (arith, find_map f keeps stays blocks)

  module _ (block : Block) where
    -- The table of positions: what a name finds after one block changes.

    other_name : name ≢ block.name → has_name name block ≡ false
    other_name ne = grind arith

    find_placed : (blocks : List Block) → has_name name block ≡ false
        → find (has_name name) (placed block blocks) ≡ find (has_name name) blocks
    find_placed [] other = rw other refl
    find_placed (first ∷ blocks) other = grind (arith, find_placed blocks other)

    find_put : (blocks : List Block) → has_name name block ≡ true → find (has_name name) blocks ≡ None
        → find (has_name name) (placed block blocks) ≡ Some block
    find_put [] mine none = rw mine refl
    find_put (first ∷ blocks) mine none = grind (arith, find_put blocks mine)

-- a name's block is moved
abbrev put_again : ℕ → Place → List ℕ → HeapStore → HeapStore
put_again name target bytes store = with_block (block_at target name bytes) (without_block name store)

module _ (header : ℕ) where
  module _ (B : List ℕ) where
    pub find_is : (b name : ℕ) (l : List Chunk)
        → find (has_name name) (blocks_in header B b l) ≡ option_map (block_in_chunk header B b name) (find (owned_by name) l)
    find_is b name [] = refl
    find_is b name (c ∷ l) = grind (arith, find_is b name l)

    pub some_owned : (b name : ℕ) (l : List Chunk) (o : Option Chunk) → o ≡ find (owned_by name) l
        → IsSome (find (has_name name) (blocks_in header B b l)) → IsSome o
    some_owned b name l o e live = grind (arith, find_is)

module _ (heap : Region) where
  -- What holds of all chunks, also of those that are freed and not joined.

  -- headers in the span describe chunks, each name has at most one, and the table has its position
  pub record IsStored (bytes : List ℕ) : Type 0 where
    pub chunks : HasChunks heap bytes
    pub named : (name : ℕ) → name < 272 → length (filter (has_name name) (store_of heap bytes).blocks) ≤ 1
    pub places : ArePlaced heap.places (store_of heap bytes)

  module _ (B : List ℕ) where
    pub block_found : (name p h : ℕ) (o : Option Chunk) → name < 272 → name ≡ number_of p h
        → o ≡ find (owned_by name) (chunks_of heap B)
        → option_map (block_in_chunk heap.header B heap.span.at name) o ≡ find_block (number_of p h) (heap_of heap B)
    block_found name p h o small same found = grind (arith, find_is, find_named)

pub stored : {heap : Region} {B : List ℕ} → IsLaidOut heap B → IsStored heap B
stored laid = grind (arith, count_named, find_named)

-- the chunk that the table names
module _ {heap : Region} {B : List ℕ} (laid : IsStored heap B) {name : ℕ} (small : name < 272) where
  abbrev found : Option Chunk
  found = find (owned_by name) (chunks_of heap B)

  entry_is : get_or heap.places name None ≡ option_map (λ (c : Chunk). c.at) found
  entry_is = grind (arith, find_is)

  pub none_found : get_or heap.places name None ≡ None → found ≡ None
  none_found none = grind (arith, entry_is)

  pub some_found : {at : ℕ} → get_or heap.places name None ≡ Some at → (found ≡ Some (chunk_at B heap.span.at at))
      × (at + 12 ≤ heap.footprint)
  some_found {at} some = from found refl (sym entry_is ∙ some)
    where
      from : (o : Option Chunk) → found ≡ o → option_map (λ (c : Chunk). c.at) o ≡ Some at → (found ≡ Some (chunk_at B heap.span.at at))
          × (at + 12 ≤ heap.footprint)
      from None is e = absurd (cc)
      from (Some c) is e =
          let there : c.at ≡ at = cc in let a = around laid.chunks (owned name c (chunks_of heap B) is).stands in
          (is ∙ ap Some (sym a.here ∙ ap (chunk_at B heap.span.at) there), omega (arith, a.enough))

module _ (places : List (Option ℕ)) where
  module _ (store : HeapStore) where
    module _ (new : HeapStore) where
      pub placed_less : (name : ℕ) → name < 272 → new ≡ without_block name store
          → ArePlaced places store → ArePlaced (slice_set places name None) new
      placed_less name small is = search (rules, placed_set, find_without, find_gone)

      module _ (target : Place) where
        module _ (name : ℕ) where
          pub placed_more : (bytes : List ℕ) → name < 272
              → find_block name store ≡ None → new ≡ with_block (block_at target name bytes) store → ArePlaced places store
              → ArePlaced (slice_set places name (Some target.at)) new
          placed_more bytes small none is = search (rules, placed_set, find_placed, other_name, find_put, eq-eqb)

          pub placed_again : (bytes : List ℕ) → name < 272
              → new ≡ put_again name target bytes store → ArePlaced places store
              → ArePlaced (slice_set places name (Some target.at)) new
          placed_again bytes small is =
              search (rules, placed_set, find_placed, other_name, find_without, find_put, eq-eqb, find_gone)

          pub placed_there : (bytes : List ℕ)
              → place_found name store ≡ Some target.at → new ≡ put_again name target bytes store → ArePlaced places store
              → ArePlaced places new
          placed_there bytes at is were =
              grind (arith, find_put, find_gone, find_placed, other_name, find_without)

      pub placed_moved : (found : Option Place) (at name : ℕ) (bytes : List ℕ) → name < 272
          → option_map (λ (target : Place). target.at) found ≡ Some at
          → option_map (λ target. put_again name target bytes store) found ≡ Some new → ArePlaced places store
          → ArePlaced (slice_set places name (Some at)) new
      placed_moved None at name bytes small there is were = absurd (cc)
      placed_moved (Some target) at name bytes small there is were = grind (arith, placed_again target name bytes small (sym cc) were)
