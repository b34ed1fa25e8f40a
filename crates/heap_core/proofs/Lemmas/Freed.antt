-- Chunks that were freed and are not joined yet.
use Rattle.heap_core.proofs.Lemmas.Words.{◌≡◌, ◌≢◌, ℕ, ◌+◌, ◌-◌, ◌≤◌, ◌<◌, inl, inr, Bool, not, List, [], ◌∷◌, ◌++◌, length, true, false, refl, sym, ap, ◌∙◌, subst, arith, Option, Some, None, IfSome, filter, map, cases_Bool, ltb-true, lt-ltb, le-ltb, length-append, filter-append, All-nil, ChangesOnly, Chunk, Region, Block, HeapStore, placed, heap_of, FREED, is_a_name, chunk_at, Tell, AreJoined, with_chunk, blocks_in, is_named, chunks_of, store_of, HasChunks, NoneAt, AreFreed, unnamed, GapsLinked, FreedLinked, Stands, LiveIn, Owned, Spliced, Aside, Changed, KeepsToSpan, KeepsFreed, block_in_chunk, block_at, with_block, without_place, place_in_chunk, bytes_in_chunk, Contents, gaps, IsLaidOut, Joins, ◌*◌, ◌⊎◌, sum_by, All, sum_by-cons, length-range, length-map, Gap, end_of, gaps_from, LieInOrder, shortest, footprint, stats_of}
use Rattle.heap_core.proofs.Lemmas.ChunkHeaders.{store_with, elsewhere, swapped, Around, around, blocks_append, changes_more, place_told, told_le, Step, step, ended}
use Rattle.heap_core.proofs.Lemmas.Gaps.{many, gaps_are, last_end}
use Rattle.heap_core.proofs.Lemmas.Lists.{cut_at, cut_left, edit_kept, edit_put, swapped_list}
use Rattle.mote_types.specs.declared.reply.HeapStats.{HeapStats}

-- if no block is unnamed, all are named
pub all_named : (xs : List Block) → length (unnamed xs) ≡ 0 → filter is_named xs ≡ xs
all_named [] e = refl
all_named (x ∷ xs) e = grind (arith, all_named xs)

pub owner_named : (o : Option ℕ) → is_a_name o ≡ true → (name : ℕ) × (o ≡ Some name) × (name < 272)
owner_named o e = grind arith

-- chunks that stay live stay in the list
pub freed_moved : (all new : List Chunk) (head : Option ℕ) (list : List Chunk) (at : ℕ) → NoneAt at list
    → ((other : Chunk) → LiveIn other all → other.at ≢ at → LiveIn other new) → AreFreed all head list → AreFreed new head list
freed_moved all new head [] at none kept h = h
freed_moved all new head (c ∷ list) at none kept h = (h.0, kept c h.1 none.0, h.2, h.3, freed_moved all new c.link list at none.1 kept h.4)

module _ (p : Block → Bool) where
  pub filter_swap : (q : Block → Bool) (xs : List Block) → filter p (filter q xs) ≡ filter q (filter p xs)
  filter_swap q [] = refl
  filter_swap q (x ∷ xs) = grind (arith, filter_swap q xs)

  fewer : (xs : List Block) → length (filter p xs) ≤ length xs
  fewer [] = omega arith
  fewer (x ∷ xs) = grind (arith, cases_Bool, fewer xs)

module _ {heap : Region} {B : List ℕ} (has : HasChunks heap B) where
  abbrev T : List Chunk
  T = chunks_of heap B

  pub freed_small : FreedLinked heap B → heap.freed ≤ 8192
  freed_small f = grind (arith, many, fewer)

  same_chunk : (c d : Chunk) → Stands c T → Stands d T → c.at ≡ d.at → c ≡ d
  same_chunk c d s s' e = sym (around has s).here ∙ ap (chunk_at B heap.span.at) e ∙ (around has s').here

  pub record Newest (chunk : Chunk) : Type 0 where
    pub live : LiveIn chunk T
    pub owner : chunk.owner ≡ Some FREED
    pub rest : List Chunk
    pub none : NoneAt chunk.at rest
    pub later : AreFreed T chunk.link rest
    pub count : 1 + length rest ≡ heap.freed

  -- the list is empty, or has the one that was freed last
  freed_cases : FreedLinked heap B → ((heap.newest ≡ None) × (heap.freed ≡ 0))
      ⊎ ((at : ℕ) × (heap.newest ≡ Some at) × (1 ≤ heap.freed) × Newest (chunk_at B heap.span.at at))
  freed_cases f = from f.list f.linked f.count
    where
      from : (list : List Chunk) → AreFreed T heap.newest list → length list ≡ heap.freed
          → ((heap.newest ≡ None) × (heap.freed ≡ 0))
          ⊎ ((at : ℕ) × (heap.newest ≡ Some at) × (1 ≤ heap.freed) × Newest (chunk_at B heap.span.at at))
      from [] h count = inl (h, sym count)
      from (c ∷ list) h count = inr (
        c.at,
        h.0,
        omega arith,
        subst Newest (sym (around has h.1.stands).here)
            (record { live = h.1; owner = h.2; rest = list; none = h.3; later = h.4; count = omega arith }),
      )

  pub newest_is : FreedLinked heap B → {at : ℕ} {chunk : Chunk} → heap.newest ≡ Some at → chunk ≡ chunk_at B heap.span.at at → Newest chunk
  newest_is f {at} {chunk} e is = grind (arith, freed_cases f)

  pub none_newest : FreedLinked heap B → heap.newest ≡ None → heap.freed ≡ 0
  none_newest f e = grind (arith, freed_cases f)

  pub newest_none : FreedLinked heap B → heap.freed ≡ 0 → heap.newest ≡ None
  newest_none f e = grind (arith, freed_cases f)

  pub newest_small : FreedLinked heap B → IfSome heap.newest (λ place. place < 65536)
  newest_small f = elim (freed_cases f) [
    | inl none ↦ subst (λ o. IfSome o (λ place. place < 65536)) (sym none.0) tt
    | inr some ↦
        let a = around has some.3.live.stands in subst (λ o. IfSome o (λ place. place < 65536)) (sym some.1)
        (omega (arith, a.enough, place_told B heap.span.at some.0 _ refl, heap.inside, heap.small))
  ]

-- a chunk with or without a name, and the others
module _ {heap : Region} {B : List ℕ} {chunk : Chunk} (at : Around heap B chunk) {name : ℕ} (owner : chunk.owner ≡ Some name) where
  pub is_live : chunk.owner ≢ None
  is_live none = cc

  abbrev xs : List Block
  xs = blocks_in heap.header B heap.span.at at.before

  abbrev ys : List Block
  ys = blocks_in heap.header B heap.span.at at.behind

  abbrev block : Block
  block = block_in_chunk heap.header B heap.span.at name chunk

  pub all_blocks : (store_of heap B).blocks ≡ xs ++ (block ∷ ys)
  all_blocks = ap (blocks_in heap.header B heap.span.at) at.is ∙ blocks_append heap.header B heap.span.at at.before (chunk ∷ at.behind)
      ∙ ap (λ o. xs ++ with_chunk heap.header B heap.span.at chunk o ys) owner

  other_blocks : filter (elsewhere chunk.at) (store_of heap B).blocks ≡ xs ++ ys
  other_blocks = cut_left (cut_at at)

  module _ (p : Block → Bool) (k : Block) where
    filtered : p k ≡ false → filter p (xs ++ (k ∷ ys)) ≡ filter p (xs ++ ys)
    filtered gone = grind (arith, filter-append)

    counted : p k ≡ true → length (filter p (xs ++ (k ∷ ys))) ≡ 1 + length (filter p (xs ++ ys))
    counted kept = grind (arith, filter-append, length-append)

  pub named_without : 272 ≤ name
      → filter is_named (filter (elsewhere chunk.at) (store_of heap B).blocks) ≡ filter is_named (store_of heap B).blocks
  named_without big = grind (arith, other_blocks, all_blocks, filtered)

  pub unnamed_without : 272 ≤ name
      → length (unnamed (store_of heap B).blocks) ≡ 1 + length (unnamed (filter (elsewhere chunk.at) (store_of heap B).blocks))
  unnamed_without big = grind (arith, counted (λ k. not (is_named k)) block, other_blocks, all_blocks, le-ltb name 272 big)

  module _ (small : name < 272) (new : Region) {B' : List ℕ} (span : new.span ≡ heap.span) (header : new.header ≡ heap.header)
      (footprint : new.footprint ≡ heap.footprint)
      (told : chunk_at B' heap.span.at chunk.at
      ≡ (let k : Chunk = record { at = chunk.at; len = chunk.len; owner = Some FREED; size = chunk.size; link = heap.newest } in k))
      (changes : ChangesOnly (heap.span.at + chunk.at) 12 B B') where
    abbrev aside : Chunk
    aside = record { at = chunk.at; len = chunk.len; owner = Some FREED; size = chunk.size; link = heap.newest }

    freed_live : aside.owner ≢ None
    freed_live none = cc

    set : Spliced heap new B B' at.before (aside ∷ []) at.behind
    set = swapped at aside span header footprint
        (changes_more changes (omega arith) (omega arith))
        told refl at.enough ((λ _. freed_live), (λ none. absurd (freed_live none)))

    k : Block
    k = block_in_chunk heap.header B' heap.span.at FREED aside

    set_blocks : (store_of new B').blocks ≡ xs ++ (k ∷ ys)
    unfolding k
    set_blocks = ap (λ (h : HeapStore). h.blocks) set.store

    set_named : filter is_named (store_of new B').blocks ≡ filter (elsewhere chunk.at) (filter is_named (store_of heap B).blocks)
    unfolding k
    set_named = grind (arith, filter_swap, other_blocks, filtered is_named k, set_blocks)

    set_unnamed : length (unnamed (store_of new B').blocks) ≡ 1 + length (unnamed (store_of heap B).blocks)
    unfolding k
    set_unnamed = grind (arith, filtered (λ j. not (is_named j)) block, counted (λ j. not (is_named j)) k, set_blocks, all_blocks)

    none_there : (head : Option ℕ) (list : List Chunk) → AreFreed (chunks_of heap B) head list → NoneAt chunk.at list
    none_there head [] h = tt
    none_there head (d ∷ list) h = (
      (λ e. (grind (arith, same_chunk at.has d chunk h.1.stands (record { before = at.before; behind = at.behind; is = at.is }) e))),
      none_there d.link list h.4,
    )

    pub set_aside : new.newest ≡ Some chunk.at → new.freed ≡ heap.freed + 1 → new.lowest ≡ heap.lowest → new.gaps ≡ heap.gaps
        → GapsLinked heap B → FreedLinked heap B → Aside heap new B B' chunk
    set_aside newest freed lowest gaps g f = record {
      chunks = set.has;
      block = grind (arith, set_named);
      gaps = swapped_list at set is_live freed_live lowest gaps g;
      freed = record {
        list = aside ∷ f.list;
        linked = (
          newest,
          record { stands = record { before = at.before; behind = at.behind; is = set.is }; live = freed_live },
          refl,
          none_there heap.newest f.list f.linked,
          freed_moved (chunks_of heap B) (chunks_of new B') heap.newest f.list chunk.at (none_there heap.newest f.list f.linked)
              (edit_kept (cut_at at) set) f.linked,
        );
        count = omega (arith, freed);
        all = omega (arith, set_unnamed);
      };
    }

  -- its header and bytes are written anew, its length stays
  module _ {n : ℕ} (room : heap.header + n ≤ chunk.len) (after : Contents)
      (changes : ChangesOnly (heap.span.at + chunk.at) chunk.len B after.bytes)
      (told : chunk_at after.bytes heap.span.at chunk.at
      ≡ (let k : Chunk = record { at = chunk.at; len = chunk.len; owner = Some name; size = n; link = None } in k)) where
    abbrev again : Chunk
    again = record { at = chunk.at; len = chunk.len; owner = Some name; size = n; link = None }

    again_live : again.owner ≢ None
    again_live none = cc

    anew : Spliced heap heap B after.bytes at.before (again ∷ []) at.behind
    anew = swapped at again refl refl refl changes told refl (omega (arith, room))
        ((λ _. again_live), (λ none. absurd (again_live none)))

    pub refilled : {ws : List ℕ} {before : Contents} → before.bytes ≡ B → bytes_in_chunk heap.header after.bytes heap.span.at again ≡ ws
        → GapsLinked heap B
        → KeepsToSpan heap heap before after
        → Changed heap heap before after chunk.at
        (with_block (block_at (place_in_chunk heap.header chunk) name ws) (without_place chunk.at (store_of heap B)))
    refilled {ws} {before} same fresh g rest = record {
      chunks = anew.has;
      gaps = swapped_list at anew is_live again_live refl refl g;
      block =
          grind (
            arith,
            cut_left (cut_at at),
            edit_put (cut_at at) anew (block_at (place_in_chunk heap.header chunk) name ws)
                (filter (elsewhere chunk.at) (store_of heap B).blocks) refl,
          );
      others = subst (λ (l : List ℕ). (other : Chunk) → LiveIn other (chunks_of heap l) → other.at ≢ chunk.at
          → LiveIn other (chunks_of heap after.bytes)) (sym same) (edit_kept (cut_at at) anew);
      kept = record { places = refl; newest = refl; freed = refl };
      rest = rest;
    }

pub owned_live : {heap : Region} {B : List ℕ} {chunk : Chunk} {name : ℕ} → HasChunks heap B → Owned name chunk (chunks_of heap B)
    → LiveIn chunk (chunks_of heap B)
owned_live has o = record { stands = o.stands; live = is_live (around has o.stands) o.owner }

placed_unnamed : (block : Block) (xs : List Block) → is_named block ≡ true → length (unnamed (placed block xs)) ≡ length (unnamed xs)
placed_unnamed block [] named = rw named refl
placed_unnamed block (x ∷ xs) named = grind (arith, placed_unnamed block xs named)

-- without a chunk set aside there is no list of them
freed_none : (old new : Region) (B B' : List ℕ) → HasChunks old B → FreedLinked old B → old.freed ≡ 0 → KeepsFreed old new
    → length (unnamed (store_of new B').blocks) ≡ 0 → FreedLinked new B'
freed_none old new B B' has f none kept all = record {
  list = [];
  linked = kept.newest ∙ newest_none has f none;
  count = sym (kept.freed ∙ none);
  all = all ∙ sym (kept.freed ∙ none);
}

module _ (heap : Region) where
  module _ (B : List ℕ) where
    -- then all chunks but the gaps are live blocks
    pub plain : FreedLinked heap B → heap.freed ≡ 0 → heap_of heap B ≡ store_of heap B
    plain f none = ap (store_with heap)
        (all_named (store_of heap B).blocks (f.all ∙ none))

    pub linked_is : HasChunks heap B → GapsLinked heap B → FreedLinked heap B → heap.freed ≡ 0
        → heap.freed + heap.gaps ≡ length (gaps (heap_of heap B))
    linked_is has list freed none = grind (arith, plain, gaps_are, length-map)

-- a named block was put among named ones
pub record Named (heap : Region) (B : List ℕ) (store : HeapStore) : Type 0 where
  pub freed : FreedLinked heap B
  pub none : heap.freed ≡ 0
  pub is : heap_of heap B ≡ store

pub put_named : {old new : Region} {B B' : List ℕ} → HasChunks old B → FreedLinked old B → old.freed ≡ 0 → KeepsFreed old new
    → (block : Block)
    (base : HeapStore) → store_of new B' ≡ with_block block base → length (unnamed base.blocks) ≡ 0 → block.name < 272
    → Named new B' (with_block block base)
put_named {old} {new} {B} {B'} has f none kept block base is all named = grind
    (arith, plain, placed_unnamed block base.blocks (lt-ltb block.name 272 named), freed_none old new B B' has f none kept)

pub joined_is : {old new : Region} {before after : Contents} → Joins old new before after → new.freed ≡ 0
    → store_of new after.bytes ≡ heap_of old before.bytes
joined_is {old} {new} {before} {after} joins none = sym (plain new after.bytes joins.freed none) ∙ joins.blocks

pub joined_laid : {old new : Region} {before after : Contents} → IsLaidOut old before.bytes → Joins old new before after
    → IsLaidOut new after.bytes
joined_laid {old} {new} {before} {after} laid joins = grind arith

-- The live blocks among the chunks.
abbrev pub live_of : ℕ → List ℕ → ℕ → List Chunk → List Block
live_of header B b l = filter is_named (blocks_in header B b l)

abbrev rooms_of : List Block → ℕ
rooms_of blocks = sum_by (λ (block : Block). block.room) blocks

abbrev gap_sum : List Gap → ℕ
gap_sum gaps = sum_by (λ (gap : Gap). gap.len) gaps

abbrev Long : ℕ → Gap → Type 0
Long header gap = shortest header ≤ gap.len

module _ (header : ℕ) (B : List ℕ) (b : ℕ) where
  module _ (c : Chunk) where
    skipped : (o : Option ℕ) (xs : List Block) → is_a_name o ≡ false
        → filter is_named (with_chunk header B b c o xs) ≡ filter is_named xs
    skipped o xs e = grind arith

    module _ (l : List Chunk) where
      -- a chunk is a live block, or adds none
      pub named_here : (name : ℕ) → c.owner ≡ Some name → name < 272
          → live_of header B b (c ∷ l) ≡ block_in_chunk header B b name c ∷ live_of header B b l
      named_here name e small = grind arith

      pub named_skip : is_a_name c.owner ≡ false → live_of header B b (c ∷ l) ≡ live_of header B b l
      named_skip e = skipped c.owner (blocks_in header B b l) e

  pub live_in_order : (size from x z : ℕ) (l : List Chunk) → b + size ≤ length B → z ≤ size → from ≤ x → Tell header B b x z l
      → LieInOrder header from (live_of header B b l) size
  live_in_order size from x z [] fits most le t = omega arith
  live_in_order size from x z (c ∷ l) fits most le t = grind (
    arith,
    told_le,
    owner_named,
    named_here,
    length-range,
    named_skip,
    live_in_order size from (x + c.len) z l fits most,
    live_in_order size (c.at + (header + (c.len - header))) (x + c.len) z l fits most,
    place_told B b x c t.0,
    t.1,
  )

  -- between two live blocks are whole chunks
  pub live_gaps_long : (from x z : ℕ) (l : List Chunk) → Tell header B b x z l → AreJoined header l → (from ≡ x)
      ⊎ (from + shortest header ≤ x) → All (Long header) (gaps_from header from (live_of header B b l))
  live_gaps_long from x z [] t joined side = All-nil (Long header)
  live_gaps_long from x z (c ∷ l) t joined side =
      let enough = t.1 in let at = place_told B b x c t.0 in
      grind (
        arith,
        live_gaps_long from (x + c.len) z l t.2 joined.2 (inr (grind arith)),
        live_gaps_long
            (c.at + (header + (c.len - header))) (x + c.len) z l t.2 joined.2 (inl (omega arith)),
      )

-- blocks with headers, gaps and the top gap take all bytes
pub all_bytes : (header from size : ℕ) (xs : List Block) → LieInOrder header from xs size → (last_end header from xs ≤ size)
    × (from + (gap_sum (gaps_from header from xs) + (rooms_of xs + header * length xs)) ≡ last_end header from xs)
all_bytes header from size [] h = (h, omega arith)
all_bytes header from size (block ∷ xs) h = let later = all_bytes header (end_of header block) size xs h.2 in
    let gap : Gap = record { at = from; len = block.at - from } in
    grind (
      arith,
      ltb-true,
      sum_by-cons (λ (gap : Gap). gap.len) gap (gaps_from header (end_of header block) xs),
      sum_by-cons (λ (block : Block). block.room) block xs,
    )

-- What the statistics have counted while they walk over the chunks.
abbrev stats : ℕ → ℕ → ℕ → ℕ → ℕ → HeapStats
stats allocated overhead available footprint chunks =
    record { allocated = allocated; overhead = overhead; available = available; footprint = footprint; chunks = chunks }

-- bytes and blocks up to a position were counted; the others are among the chunks from there on
pub record Counted (heap : Region) (B : List ℕ) (rooms many end at : ℕ) : Type 0 where
  pub left : List Chunk
  pub told : Tell heap.header B heap.span.at at heap.footprint left
  pub all_rooms : rooms + rooms_of (live_of heap.header B heap.span.at left) ≡ rooms_of (heap_of heap B).blocks
  pub all_many : many + length (live_of heap.header B heap.span.at left) ≡ length (heap_of heap B).blocks
  pub last : last_end heap.header end (live_of heap.header B heap.span.at left) ≡ footprint (heap_of heap B)

module _ {heap : Region} {B : List ℕ} (has : HasChunks heap B) where
  abbrev b : ℕ
  b = heap.span.at

  abbrev blocks : List Block
  blocks = (heap_of heap B).blocks

  abbrev live : List Chunk → List Block
  live l = live_of heap.header B b l

  pub in_order : LieInOrder heap.header 0 blocks heap.span.len
  in_order = live_in_order heap.header B b heap.span.len 0 0 heap.footprint (chunks_of heap B) has.within (omega arith)
      (omega arith) has.told

  pub counted_first : Counted heap B 0 0 0 0
  counted_first = record { left = chunks_of heap B; told = has.told; all_rooms = omega arith; all_many = omega arith; last = refl }

  module _ {rooms many end at : ℕ} (w : Counted heap B rooms many end at) where
    -- what is counted is in the span
    pub counted_fits : (rooms + heap.header * many ≤ heap.span.len) × (8 * many ≤ heap.span.len)
    counted_fits = grind (arith, all_bytes, in_order)

    pub counted_all : heap.footprint ≤ at → stats rooms (heap.header * many) (heap.span.len - rooms - heap.header * many) end many
        ≡ stats_of (heap_of heap B)
    counted_all far = grind (arith, all_bytes, in_order, ended heap.header B b at heap.footprint w.left w.told far)

module _ {heap : Region} {B : List ℕ} {rooms many end at : ℕ} {chunk : Chunk} (w : Counted heap B rooms many end at)
    (is : chunk ≡ chunk_at B heap.span.at at) (more : at < heap.footprint) where
  pub met : Step heap.header B heap.span.at at heap.footprint chunk w.left
  met = step heap.header B heap.span.at at heap.footprint chunk w.left is w.told more

  pub counted_live : is_a_name chunk.owner ≡ true
      → Counted heap B (rooms + (chunk.len - heap.header)) (many + 1) (at + chunk.len) (at + chunk.len)
  counted_live named =
      let m = met in let o = owner_named chunk.owner named in let sum = sum_by-cons (λ (block : Block). block.room)
      (block_in_chunk heap.header B heap.span.at o.0 chunk)
      (live_of heap.header B heap.span.at m.later) in
      let same : chunk.at + (heap.header + (chunk.len - heap.header)) ≡ at + chunk.len = omega
      (arith, m.enough, place_told B heap.span.at at chunk (sym is)) in
      grind (arith, named_here heap.header B heap.span.at chunk m.later o.0 o.1 o.2)

  pub counted_free : is_a_name chunk.owner ≡ false → Counted heap B rooms many end (at + chunk.len)
  counted_free free = grind (arith, met)

module _ (p : Block → Bool) where
  pub none_unnamed : (xs : List Block) → length (unnamed xs) ≡ 0 → length (unnamed (filter p xs)) ≡ 0
  none_unnamed xs none = grind (arith, filter_swap, fewer)

  -- a change that keeps which blocks pass the filter
  pub filter_map : (f : Block → Block) → ((block : Block) → p (f block) ≡ p block) → (xs : List Block)
      → filter p (map f xs) ≡ map f (filter p xs)
  filter_map f keeps [] = refl
  filter_map f keeps (x ∷ xs) = grind (arith, filter_map f keeps xs)
