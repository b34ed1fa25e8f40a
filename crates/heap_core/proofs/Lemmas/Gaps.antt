-- The gaps that the blocks leave are the gaps among the chunks; what follows for the positions of a heap.
use Rattle.heap_core.proofs.Lemmas.Words.{◌≡◌, ℕ, ◌+◌, ◌-◌, ◌*◌, ◌≤◌, ◌<◌, ◌⊎◌, inl, inr, List, [], ◌∷◌, ◌++◌, length, refl, sym, ap, ◌∙◌, arith, Option, Some, None, fold, Chunk, Gap, Block, end_of, gaps_from, better, best_gap, least_len, Tell, BeginsLive, AreJoined, with_chunk, blocks_in, gaps_among, ◌%◌, Region, IsHeaderLength, least_room, shortest, IsWholeRoom, ◌≢◌, Bool, eqb, leb, find, if◌then◌else◌, option_map_or, option_or, gaps, gap_at, room_taken, room_in_place, chunks_of, HasChunks, store_of, front_gap, place_in_chunk, LeavesGap, option_map, leb-true, Place, place, place_in, top_place, Stands, LiveIn, GapAt, map, with_free, map-append}
use Rattle.heap_core.proofs.Lemmas.ChunkHeaders.{place_told, told_le, Around, around, In, stands_of}
use Rattle.std.proofs.lemmas.List.Folds.{find-append, fold-map}

abbrev gap_in_chunk : Chunk → Gap
gap_in_chunk c = record { at = c.at; len = c.len }

abbrev pub gaps_in : List Chunk → List Gap
gaps_in l = map gap_in_chunk (gaps_among l)

with_free_append : (c : Chunk) (o : Option ℕ) (xs ys : List Chunk) → with_free c o (xs ++ ys) ≡ with_free c o xs ++ ys
with_free_append c o xs ys = grind arith

pub gaps_append : (l r : List Chunk) → gaps_among (l ++ r) ≡ gaps_among l ++ gaps_among r
gaps_append [] r = refl
gaps_append (c ∷ l) r = ap (with_free c c.owner) (gaps_append l r) ∙ with_free_append c c.owner (gaps_among l) (gaps_among r)

module _ (c : Chunk) where
  pub gap_first : (l : List Chunk) → c.owner ≡ None → gaps_among (c ∷ l) ≡ c ∷ gaps_among l
  gap_first l e = grind arith

  pub live_first : (name : ℕ) (l : List Chunk) → c.owner ≡ Some name → gaps_among (c ∷ l) ≡ gaps_among l
  live_first name l e = grind arith

gap_in : (c : Chunk) (l : List Chunk) → In c (gaps_among l) → In c l × (c.owner ≡ None)
gap_in c [] h = absurd h
gap_in c (d ∷ l) h = grind (arith, gap_in c l)

abbrev pub last_end : ℕ → ℕ → List Block → ℕ
last_end header from blocks = fold (λ _ block. end_of header block) from blocks

module _ (header : ℕ) (B : List ℕ) (b : ℕ) where
  pub none_in_front : (c : Chunk) (xs : List Block) → c.owner ≡ None → with_chunk header B b c c.owner xs ≡ xs
  none_in_front c xs e = grind arith

  abbrev gap_from : ℕ → ℕ → Gap
  gap_from from to = record { at = from; len = to - from }

  -- from where the chunks begin, or lower if the first is live
  gaps_both : (x z : ℕ) (l : List Chunk) → Tell header B b x z l → AreJoined header l
      → (gaps_from header x (blocks_in header B b l) ≡ gaps_in l)
      × ((from : ℕ) → from < x → BeginsLive l → gaps_from header from (blocks_in header B b l) ≡ gap_from from x ∷ gaps_in l)
  gaps_both x z [] t j = grind arith
  gaps_both x z (c ∷ l) t j =
      grind (arith, gaps_both (x + c.len) z l t.2 j.2, place_told B b x c t.0)

  pub gaps_are : (x z : ℕ) (l : List Chunk) → Tell header B b x z l → AreJoined header l
      → gaps_from header x (blocks_in header B b l) ≡ gaps_in l
  gaps_are x z l t j = grind (arith, gaps_both)

  end_both : (x z : ℕ) (l : List Chunk) → Tell header B b x z l → AreJoined header l → (last_end header x (blocks_in header B b l) ≡ z)
      × ((from : ℕ) → BeginsLive l → last_end header from (blocks_in header B b l) ≡ z)
  end_both x z [] t j = grind arith
  end_both x z (c ∷ l) t j =
      grind (arith, end_both (x + c.len) z l t.2 j.2, place_told B b x c t.0)

  pub end_is : (x z : ℕ) (l : List Chunk) → Tell header B b x z l → AreJoined header l → last_end header x (blocks_in header B b l) ≡ z
  end_is x z l t j = grind (arith, end_both)

  -- a block is at least as long as the words of a chunk
  pub many : (x z : ℕ) (l : List Chunk) → Tell header B b x z l → x + 12 * length (blocks_in header B b l) ≤ z
  many x z [] t = omega arith
  many x z (c ∷ l) t = grind (arith, many (x + c.len) z l t.2)

module _ (need : ℕ) where
  -- a walk for the best gap looks only at the gaps
  abbrev pub better_chunk : Option Gap → Chunk → Option Gap
  better_chunk best chunk = better need best (record { at = chunk.at; len = chunk.len })

  pub better_same : (best : Option Gap) (l : List Chunk)
      → fold better_chunk best (gaps_among l) ≡ fold (better need) best (gaps_in l)
  better_same best l = grind (arith, fold-map)

  best_found : (best : Option Gap) (gap : Gap) (l : List Chunk) → fold better_chunk best l ≡ Some gap
      → (best ≡ Some gap) ⊎ ((c : Chunk) × In c l × (gap_in_chunk c ≡ gap) × (need ≤ gap.len))
  best_found best gap [] e = inl e
  best_found best gap (c ∷ l) e = grind (arith, best_found (better_chunk best c) gap l e)

-- a gap among the chunks
pub record Found (need : ℕ) (gap : Gap) (l : List Chunk) : Type 0 where
  pub chunk : Chunk
  pub stands : Stands chunk l
  pub free : chunk.owner ≡ None
  pub at : chunk.at ≡ gap.at
  pub len : chunk.len ≡ gap.len
  pub fits : need ≤ gap.len

pub best_fits : {heap : Region} {B : List ℕ} → HasChunks heap B → {need : ℕ} {gap : Gap}
    → Some gap ≡ best_gap need (gaps (store_of heap B)) → Found need gap (chunks_of heap B)
best_fits {heap} {B} has {need} {gap} e = grind (arith, best_found, better_same, gaps_are, gap_in, stands_of)

module _ (header : ℕ) where
  -- a header and the shortest chunk
  pub record Known : Type 0 where
    pub long : 8 ≤ header
    pub whole : header % 4 ≡ 0
    pub least : 16 ≤ shortest header
    pub room : header + 4 ≤ shortest header
    pub most : shortest header ≤ 20

  known_of : IsHeaderLength header → Known
  unfolding shortest
  known_of known = grind arith

  module _ (n : ℕ) where
    -- the room that a block of n bytes needs
    pub record Least : Type 0 where
      pub enough : n ≤ least_room header n
      pub whole : IsWholeRoom header (least_room header n)

    least_of : IsHeaderLength header → 1 ≤ n → Least
    unfolding shortest
    least_of known some = grind arith

abbrev begins : ℕ → Gap → Bool
begins at gap = eqb gap.at at

abbrev len_or_none : Option Gap → ℕ
len_or_none o = option_map_or (λ (gap : Gap). gap.len) o 0

in_append : (l r : List Chunk) → gaps_in (l ++ r) ≡ gaps_in l ++ gaps_in r
in_append l r = grind (arith, gaps_append, map-append)

module _ (header : ℕ) where
  module _ (B : List ℕ) where
    no_gap : (b p x y : ℕ) (l : List Chunk) → Tell header B b x y l → (p < x) ⊎ (y ≤ p)
        → find (begins p) (gaps_in l) ≡ None
    no_gap b p x y [] t side = refl
    no_gap b p x y (c ∷ l) t side =
        grind (arith, told_le, no_gap b p (x + c.len) y l t.2 (grind arith), place_told B b x c t.0)

    front_found : (b at z : ℕ) (l : List Chunk) → Tell header B b at z l
        → len_or_none (find (begins at) (gaps_in l)) ≡ front_gap l
    front_found b at z l t = grind (arith, place_told, no_gap)

-- the room at a block's position
abbrev pub choice : ℕ → ℕ → ℕ → ℕ → ℕ → ℕ → Option ℕ
choice least room end top_at top gap =
    if leb least room then Some (room_taken least room)
    else if eqb end top_at then (if leb least (room + top) then Some least else None)
    else if leb least (room + gap) then Some (room_taken least (room + gap))
    else None

module _ (heap : Region) where
  -- What holds of both lengths of a header.

  pub header_length : IsHeaderLength heap.header
  header_length = grind arith

  pub lengths : Known heap.header
  lengths = known_of heap.header header_length

  pub needed : (n : ℕ) → 1 ≤ n → Least heap.header n
  needed n some = least_of heap.header n header_length some

room_choice : {heap : Region} {B : List ℕ} → HasChunks heap B → (chunk : Chunk) (n gap : ℕ) → least_len heap.header chunk ≤ chunk.len
    → gap_at (chunk.at + chunk.len) (store_of heap B) ≡ gap → room_in_place (place_in_chunk heap.header chunk) n (store_of heap B)
    ≡ choice (least_room heap.header n) (chunk.len - heap.header) (chunk.at + chunk.len) heap.footprint (heap.span.len - heap.footprint) gap
room_choice has chunk n gap enough e = grind (arith, end_is)

module _ {heap : Region} {B : List ℕ} {chunk : Chunk} (a : Around heap B chunk) where
  gap_at_end : chunk.owner ≢ None → gap_at (chunk.at + chunk.len) (store_of heap B) ≡ front_gap a.behind
  gap_at_end live =
      let b = heap.span.at in let end = chunk.at + chunk.len in let has = a.has in
      let all : gaps (store_of heap B) ≡ gaps_in a.before ++ gaps_in a.behind = grind (arith, gaps_are, in_append) in
      grind (
        arith,
        find-append,
        front_found heap.header B b end heap.footprint a.behind a.back,
        no_gap heap.header B b end 0 chunk.at a.before a.front (inr (omega arith)),
      )

  pub room_is : (n : ℕ) → chunk.owner ≢ None → room_in_place (place_in_chunk heap.header chunk) n (store_of heap B)
      ≡ choice (least_room heap.header n) (chunk.len - heap.header) (chunk.at + chunk.len) heap.footprint
      (heap.span.len - heap.footprint) (front_gap a.behind)
  room_is n live = room_choice a.has chunk n (front_gap a.behind) a.enough (gap_at_end live)

module _ (least room end top_at top gap : ℕ) where
  pub choice_no_gap : room < least → end ≢ top_at → room + gap < least → choice least room end top_at top gap ≡ None
  choice_no_gap short more less = grind arith

module _ (header : ℕ) where
  -- the room that was chosen
  pub record Taken (least room end top_at top gap chosen : ℕ) : Type 0 where
    pub enough : least ≤ chosen
    pub on_top : end ≡ top_at → chosen ≤ room + top
    pub below : end ≢ top_at → (chosen ≡ room + gap) ⊎ LeavesGap header chosen (room + gap)
    pub whole : IsWholeRoom header chosen

  abbrev pub IsWholeGap : ℕ → Type 0
  IsWholeGap gap = (gap ≡ 0) ⊎ ((shortest header ≤ gap) × (gap % 4 ≡ 0))

  pub front_gap_whole : (l : List Chunk) → AreJoined header l → IsWholeGap (front_gap l)
  front_gap_whole l joined = grind arith

module _ (header least room end top_at top gap chosen : ℕ) (most : shortest header ≤ 20) (whole_least : IsWholeRoom header least)
    (whole_room : room % 4 ≡ 0) (long : IsWholeGap header gap) where
  pub taken : choice least room end top_at top gap ≡ Some chosen → Taken header least room end top_at top gap chosen
  taken e = grind arith

-- Where a block is placed: on top, or in a gap.
pub record OnTop (heap : Region) (target : Place) (n : ℕ) : Type 0 where
  pub at : target.at ≡ heap.footprint
  pub fits : target.at + (heap.header + target.room) ≤ heap.span.len
  pub room : n ≤ target.room
  pub whole : IsWholeRoom heap.header target.room

pub record InGap (heap : Region) (B : List ℕ) (target : Place) (n : ℕ) : Type 0 where
  pub gap : GapAt heap.header target.at (heap.header + target.room) (chunks_of heap B)
  pub below : target.at < heap.footprint
  pub room : n ≤ target.room
  pub whole : IsWholeRoom heap.header target.room

module _ {heap : Region} {B : List ℕ} (has : HasChunks heap B) {n : ℕ} (some : 1 ≤ n) where
  abbrev need : ℕ
  need = least_room heap.header n

  abbrev Outcome : Place → Type 0
  Outcome target = OnTop heap target n ⊎ InGap heap B target n

  on_top : (target : Place) → top_place need (store_of heap B) ≡ Some target → Outcome target
  on_top target e = grind (arith, end_is, needed, leb-true)

  in_gap : (target : Place) (gap : Gap) → best_gap (heap.header + need) (gaps (store_of heap B)) ≡ Some gap
      → place_in heap.header need gap ≡ target → Outcome target
  in_gap target gap found same =
      grind (
        arith,
        lengths heap,
        needed heap n some,
        around has
            (best_fits has (sym found)).stands,
      )

  chosen : (target : Place) (best : Option Gap) → best_gap (heap.header + need) (gaps (store_of heap B)) ≡ best
      → option_or (option_map (place_in heap.header need) best) (top_place need (store_of heap B)) ≡ Some target → Outcome target
  chosen target best none e = grind (arith, on_top, in_gap)

  pub place_cases : {target : Place} → place n (store_of heap B) ≡ Some target → Outcome target
  place_cases {target} e = chosen target (best_gap (heap.header + need) (gaps (store_of heap B))) refl e

-- a new block is not at a live block's position
pub elsewhere_placed : {heap : Region} {B : List ℕ} → HasChunks heap B → {n : ℕ} {target : Place} → 1 ≤ n → {chunk : Chunk}
    → LiveIn chunk (chunks_of heap B) → place n (store_of heap B) ≡ Some target → chunk.at ≢ target.at
elsewhere_placed {heap} {B} has {n} {target} some live e same =
    let a = around has live.stands in
    elim (place_cases has some e) [
      | inl top ↦ grind arith
      | inr low ↦ grind (arith, around has low.gap.stands)
    ]

-- A chunk has a header, so a new block is below the highest position that 16 bits have.
module _ {heap : Region} {B : List ℕ} (has : HasChunks heap B) {n : ℕ} (some : 1 ≤ n) where
  pub low_placed : {target : Place} → place n (store_of heap B) ≡ Some target → target.at < 65535
  low_placed {target} e = elim (place_cases has some e) [
    | inl top ↦ omega (arith, top.fits, heap.header_least, heap.small)
    | inr low ↦ grind (arith, around has low.gap.stands, heap.inside, heap.small)
  ]

  pub low_moved : (found : Option Place) (at : ℕ) → place n (store_of heap B) ≡ found
      → option_map (λ (target : Place). target.at) found ≡ Some at → at < 65535
  low_moved None at e there = absurd (cc)
  low_moved (Some target) at e there = let same : target.at ≡ at = cc in omega (arith, low_placed e, same)
