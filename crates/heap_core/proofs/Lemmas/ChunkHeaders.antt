-- The chunks that headers describe, and how they change with the bytes.
use Rattle.heap_core.proofs.Lemmas.Words.{◌≡◌, ℕ, zero, suc, ◌+◌, ◌≤◌, ◌<◌, ◌⊎◌, inl, inr, List, [], ◌∷◌, ◌++◌, true, refl, ap, ◌∙◌, subst, arith, Option, Some, None, ChangesOnly, Chunk, Block, is_a_name, word_at, owner_in, size_in, link_in, chunk_at, chunks_from, least_len, Tell, blocks_in, Region, chunks_of, HasChunks, Stands, chunks_behind, ◌≢◌, IfSome, LiveIn, Bool, not, length, eqb, filter, placed, has_name, ◌-◌, HeapStore, BeginsLive, AreJoined, Spliced}

abbrev pub store_with : Region → List Block → HeapStore
store_with heap blocks = record { size = heap.span.len; header = heap.header; blocks = blocks }

module _ (header : ℕ) where
  pub told_le : (B : List ℕ) (b at end : ℕ) (l : List Chunk) → Tell header B b at end l → at ≤ end
  told_le B b at end [] t = omega arith
  told_le B b at end (c ∷ l) t = omega (arith, told_le B b (at + c.len) end l t.2)

  -- a walk finds what the headers describe
  pub walked : (n : ℕ) (B : List ℕ) (b at end : ℕ) (l : List Chunk) → Tell header B b at end l → end ≤ at + n
      → chunks_from n B b at end ≡ l
  walked zero B b at end [] t few = refl
  walked zero B b at end (c ∷ l) t few = grind (arith, told_le)
  walked (suc n) B b at end [] t few = grind arith
  walked (suc n) B b at end (c ∷ l) t few = grind (arith, told_le, walked n B b (at + c.len) end l t.2)

  module _ (B : List ℕ) where
    module _ (b : ℕ) where
      pub told_append : (x y z : ℕ) (l r : List Chunk) → Tell header B b x y l → Tell header B b y z r
          → Tell header B b x z (l ++ r)
      told_append x y z [] r s t = grind arith
      told_append x y z (c ∷ l) r s t = (s.0, s.1, told_append (x + c.len) y z l r s.2 t)

      pub record Split (x z : ℕ) (l r : List Chunk) : Type 0 where
        pub mid : ℕ
        pub front : Tell header B b x mid l
        pub back : Tell header B b mid z r

      pub told_split : (x z : ℕ) (l r : List Chunk) → Tell header B b x z (l ++ r) → Split x z l r
      told_split x z [] r t = record { mid = x; front = refl; back = t }
      told_split x z (c ∷ l) r t = grind (arith, told_split (x + c.len) z l r t.2)

module _ (B : List ℕ) where
  pub told_by : (b : ℕ) (c : Chunk) → c.len ≡ word_at B (b + c.at) → c.owner ≡ owner_in (word_at B (b + c.at + 4))
      → c.size ≡ size_in (word_at B (b + c.at + 4)) → c.link ≡ link_in c.owner (word_at B (b + c.at + 8)) → chunk_at B b c.at ≡ c
  unfolding chunk_at
  told_by b c len owner size link = grind arith

  pub place_told : (b at : ℕ) (c : Chunk) → chunk_at B b at ≡ c → c.at ≡ at
  unfolding chunk_at
  place_told b at c e = grind arith

  -- bytes that change elsewhere
  module _ (B' : List ℕ) (b s n : ℕ) (changes : ChangesOnly s n B B') where
    module _ (at : ℕ) where
      pub chunk_frame : (b + at + 12 ≤ s) ⊎ (s + n ≤ b + at) → chunk_at B' b at ≡ chunk_at B b at
      unfolding chunk_at
      chunk_frame side = grind arith

      pub live_frame : (c : Chunk) → chunk_at B b at ≡ c → is_a_name c.owner ≡ true → b + at + 8 ≤ s → chunk_at B' b at ≡ c
      unfolding chunk_at
      live_frame c told named low = grind arith

module _ (header : ℕ) (B B' : List ℕ) (b s n : ℕ) (changes : ChangesOnly s n B B') where
  -- chunks beside them, and their blocks, are unchanged
  pub framed : (x y : ℕ) (l : List Chunk) → (b + y ≤ s) ⊎ (s + n ≤ b + x) → Tell header B b x y l
      → Tell header B' b x y l × (blocks_in header B' b l ≡ blocks_in header B b l)
  framed x y [] side t = (t, refl)
  framed x y (c ∷ l) side t =
      let le = told_le header B b (x + c.len) y l t.2 in
      let later = framed (x + c.len) y l (grind arith) t.2 in
      ((chunk_frame B B' b s n changes x (grind arith) ∙ t.0, t.1, later.0), grind (arith, t.1, place_told B b x c t.0))

pub owner_cases : (o : Option ℕ) → (o ≡ None) ⊎ ((name : ℕ) × (o ≡ Some name))
owner_cases None = inl refl
owner_cases (Some name) = inr (name, refl)

pub changes_then : {s n : ℕ} {A B C : List ℕ} → ChangesOnly s n A B → ChangesOnly s n B C → ChangesOnly s n A C
changes_then {s} {n} {A} {B} {C} first second = grind arith

pub changes_more : {s n t m : ℕ} {A B : List ℕ} → ChangesOnly s n A B → t ≤ s → s + n ≤ t + m → ChangesOnly t m A B
changes_more {s} {n} {t} {m} {A} {B} changes low high = grind arith

module _ (header : ℕ) where
  module _ (B : List ℕ) where
    module _ (b : ℕ) where
      pub blocks_append : (l r : List Chunk)
          → blocks_in header B b (l ++ r) ≡ blocks_in header B b l ++ blocks_in header B b r
      blocks_append [] r = refl
      blocks_append (c ∷ l) r = grind (arith, blocks_append l r)

      pub split_at : (end : ℕ) (chunk : Chunk) (before behind : List Chunk) → Tell header B b 0 end (before ++ (chunk ∷ behind))
          → Tell header B b 0 chunk.at before × (chunk_at B b chunk.at ≡ chunk) × (least_len header chunk ≤ chunk.len)
          × Tell header B b (chunk.at + chunk.len) end behind
      split_at end chunk before behind told = grind (arith, told_split, place_told)

module _ (header : ℕ) where
  module _ (B : List ℕ) where
    module _ (b : ℕ) where
      module _ (at : ℕ) where
        module _ (end : ℕ) where
          -- the first chunk that a walk has not passed yet, and the others
          pub record Step (chunk : Chunk) (rest : List Chunk) : Type 0 where
            pub later : List Chunk
            pub is : rest ≡ chunk ∷ later
            pub told : Tell header B b (at + chunk.len) end later
            pub enough : least_len header chunk ≤ chunk.len
            pub fits : at + chunk.len ≤ end

          pub room_for_header : (rest : List Chunk) → Tell header B b at end rest → at < end → at + 12 ≤ end
          room_for_header [] t less = absurd (omega arith)
          room_for_header (c ∷ l) t less = grind (arith, told_le)

          pub step : (chunk : Chunk) (rest : List Chunk) → chunk ≡ chunk_at B b at
              → Tell header B b at end rest → at < end → Step chunk rest
          step chunk [] e t less = absurd (omega arith)
          step chunk (c ∷ l) e t less = grind (arith, told_le)

pub if_some : {X : Type 0} (P Q : X → Type 0) (o : Option X) → IfSome o P → ((x : X) → P x → Q x) → IfSome o Q
if_some P Q o h f = grind arith

-- Blocks in the order of their positions: one more, one less, or one changed.

abbrev pub Between : ℕ → ℕ → List Block → Type 0
Between x y [] = Unit {0}
Between x y (block ∷ blocks) = (x ≤ block.at) × (block.at < y) × Between x y blocks

abbrev pub elsewhere : ℕ → Block → Bool
elsewhere at block = not (eqb block.at at)

abbrev pub count : ℕ → List Block → ℕ
count name xs = length (filter (has_name name) xs)

abbrev pub Ascending : ℕ → List Block → Type 0
Ascending top [] = Unit {0}
Ascending top (block ∷ blocks) = Between (suc block.at) top blocks × (block.at < top) × Ascending top blocks

module _ (x : ℕ) where
  between_more : (x' y : ℕ) (xs : List Block) → x' ≤ x → Between x y xs → Between x' y xs
  between_more x' y [] le h = tt
  between_more x' y (block ∷ xs) le h = (omega arith, h.1, between_more x' y xs le h.2)

  module _ (y : ℕ) where
    pub filter_elsewhere : (at : ℕ) (xs : List Block) → Between x y xs → (at < x) ⊎ (y ≤ at) → filter (elsewhere at) xs ≡ xs
    filter_elsewhere at [] h side = refl
    filter_elsewhere at (block ∷ xs) h side = grind (arith, filter_elsewhere at xs h.2 side)

    module _ (block : Block) where
      pub placed_behind : (xs ys : List Block) → Between x y xs → y ≤ block.at
          → placed block (xs ++ ys) ≡ xs ++ placed block ys
      placed_behind [] ys h le = refl
      placed_behind (other ∷ xs) ys h le = grind (arith, placed_behind xs ys h.2 le)

      pub placed_front : (xs : List Block) → Between x y xs → block.at < x → placed block xs ≡ block ∷ xs
      placed_front [] h le = refl
      placed_front (other ∷ xs) h le = grind arith

-- Chunks that others replace.

-- joined chunks stay joined if a live chunk still follows each gap
begins_swap : (pre old new : List Chunk) → (BeginsLive old → BeginsLive new) → BeginsLive (pre ++ old) → BeginsLive (pre ++ new)
begins_swap [] old new keep begins = keep begins
begins_swap (c ∷ pre) old new keep begins = begins

module _ (c : Chunk) where
  -- Live chunks among others, before and after one is exchanged.
  abbrev pub In : List Chunk → Type 0
  In [] = ⊥
  In (d ∷ l) = (d ≡ c) ⊎ In l

  pub in_left : (l r : List Chunk) → In l → In (l ++ r)
  in_left [] r h = absurd h
  in_left (d ∷ l) r h = grind (arith, in_left l r)

  pub in_right : (l r : List Chunk) → In r → In (l ++ r)
  in_right [] r h = h
  in_right (d ∷ l) r h = inr (in_right l r h)

  pub in_cases : (l r : List Chunk) → In (l ++ r) → In l ⊎ In r
  in_cases [] r h = inr h
  in_cases (d ∷ l) r h = grind (arith, in_cases l r)

  pub in_of : (l : List Chunk) → Stands c l → In l
  in_of l s = grind (arith, in_right)

  pub stands_of : (l : List Chunk) → In l → Stands c l
  stands_of [] h = absurd h
  stands_of (d ∷ l) (inl e) = record { before = []; behind = l; is = ap (λ k. k ∷ l) e }
  stands_of (d ∷ l) (inr h) =
      let s = stands_of l h in record { before = d ∷ s.before; behind = s.behind; is = ap (λ k. d ∷ k) s.is }

  in_either : (before mid behind : List Chunk) → In before ⊎ In behind → In (before ++ (mid ++ behind))
  in_either before mid behind h = grind (arith, in_left, in_right)

  pub in_without : (before gone behind : List Chunk) → (In gone → ⊥) → In (before ++ (gone ++ behind)) → In before ⊎ In behind
  in_without before gone behind none h = grind (arith, in_cases)

  pub live_kept : {old new : List Chunk} (before gone mid behind : List Chunk) → old ≡ before ++ (gone ++ behind)
      → new ≡ before ++ (mid ++ behind) → (In gone → ⊥) → LiveIn c old → LiveIn c new
  live_kept {old} {new} before gone mid behind was is none h = let beside = in_without before gone behind none in let there =
      in_either before mid behind in
      record { stands = stands_of new (grind (arith, in_of old h.stands)); live = h.live }

pub spliced : (old new : Region) (B B' : List ℕ) (x y : ℕ) (before mid behind : List Chunk) → new.span ≡ old.span → new.header ≡ old.header
    → old.span.at + old.span.len ≤ length B
    → ChangesOnly (old.span.at + x) (y - x) B B' → Tell old.header B old.span.at 0 x before → Tell old.header B' old.span.at x y mid
    → Tell old.header B old.span.at y new.footprint behind
    → AreJoined old.header (before ++ (mid ++ behind)) → Spliced old new B B' before mid behind
unfolding chunks_of
spliced old new B B' x y before mid behind span same within changes front told back joined =
    let b = old.span.at in let header = old.header in let end = new.footprint in let l = before ++ (mid ++ behind) in
    let le = told_le header B' b x y mid told in
    let low = framed header B B' b (b + x) (y - x) changes 0 x before (inl (omega arith)) front in
    let high = framed header B B' b (b + x) (y - x) changes y end behind (inr (omega arith)) back in
    let all : Tell header B' b 0 end l =
    grind (arith, told_append) in
    let here : chunks_from end B' b 0 end ≡ l = grind (arith, walked) in
    let is : chunks_from end B' new.span.at 0 end ≡ l = grind arith in
    record {
      has = grind arith;
      is = is;
      store = grind (arith, blocks_append);
    }

module _ (header : ℕ) where
  pub joined_swap : (pre old new : List Chunk) → (BeginsLive old → BeginsLive new) → AreJoined header (pre ++ old)
      → AreJoined header new → AreJoined header (pre ++ new)
  joined_swap [] old new keep was joined = joined
  joined_swap (c ∷ pre) old new keep was joined = grind (arith, begins_swap, joined_swap pre old new keep was.2 joined)

  pub joined_behind : (pre new : List Chunk) → AreJoined header (pre ++ new) → AreJoined header new
  joined_behind [] new joined = joined
  joined_behind (c ∷ pre) new joined = joined_behind pre new joined.2

  module _ (B : List ℕ) where
    module _ (b : ℕ) where
      pub ended : (at end : ℕ) (rest : List Chunk) → Tell header B b at end rest → end ≤ at → rest ≡ []
      ended at end [] t le = refl
      ended at end (c ∷ l) t le = grind (arith, told_le)

      pub in_told : (x y : ℕ) (c : Chunk) (l : List Chunk) → Tell header B b x y l → In c l → (x ≤ c.at)
          × (c.at + c.len ≤ y) × (least_len header c ≤ c.len)
      in_told x y c [] t h = absurd h
      in_told x y c (d ∷ l) t h =
          grind (arith, told_le, in_told (x + d.len) y c l t.2, place_told B b x d t.0)

      pub blocks_between : (x y : ℕ) (l : List Chunk) → Tell header B b x y l → Between x y (blocks_in header B b l)
      blocks_between x y [] t = tt
      blocks_between x y (c ∷ l) t =
          grind (arith, told_le, between_more, blocks_between (x + c.len) y l t.2, place_told B b x c t.0)

      pub blocks_ascending : (x y : ℕ) (l : List Chunk) → Tell header B b x y l → Ascending y (blocks_in header B b l)
      blocks_ascending x y [] t = tt
      blocks_ascending x y (c ∷ l) t =
          grind (arith, told_le, between_more, blocks_between, blocks_ascending (x + c.len) y l t.2, place_told B b x c t.0, t.1)

      module _ (end : ℕ) where
        pub inside : (c : Chunk) (l : List Chunk) → Tell header B b 0 end l → LiveIn c l
            → c.at + header + c.size ≤ end
        inside c l told h = let t = in_told 0 end c l told (in_of c l h.stands) in omega (arith, t.2)

-- A chunk that is among the others.
pub record Around (heap : Region) (B : List ℕ) (chunk : Chunk) : Type 0 where
  pub has : HasChunks heap B
  pub before : List Chunk
  pub behind : List Chunk
  pub is : chunks_of heap B ≡ before ++ (chunk ∷ behind)
  pub front : Tell heap.header B heap.span.at 0 chunk.at before
  pub here : chunk_at B heap.span.at chunk.at ≡ chunk
  pub enough : least_len heap.header chunk ≤ chunk.len
  pub back : Tell heap.header B heap.span.at (chunk.at + chunk.len) heap.footprint behind
  pub fits : chunk.at + chunk.len ≤ heap.footprint
  pub joined : AreJoined heap.header (before ++ (chunk ∷ behind))
  pub rest : AreJoined heap.header (chunk ∷ behind)
  pub behind_is : chunks_behind heap B (chunk.at + chunk.len) ≡ behind

pub around_split : (heap : Region) (B : List ℕ) (chunk : Chunk) (before behind : List Chunk) → HasChunks heap B
    → chunks_of heap B ≡ before ++ (chunk ∷ behind) → (a : Around heap B chunk) × (a.before ≡ before) × (a.behind ≡ behind)
unfolding chunks_behind
around_split heap B chunk before behind has is =
    let joined = subst (AreJoined heap.header) is has.joined in
    let s = split_at heap.header B heap.span.at heap.footprint chunk before behind
    (subst (Tell heap.header B heap.span.at 0 heap.footprint) is has.told) in (
      record {
        has = has;
        before = before;
        behind = behind;
        is = is;
        front = s.0;
        here = s.1;
        enough = s.2;
        back = s.3;
        fits = grind (arith, told_le);
        joined = joined;
        rest = joined_behind heap.header before (chunk ∷ behind) joined;
        behind_is = grind (arith, walked);
      },
      refl,
      refl,
    )

pub around : {heap : Region} {B : List ℕ} {chunk : Chunk} → HasChunks heap B → Stands chunk (chunks_of heap B) → Around heap B chunk
around {heap} {B} {chunk} has stands = grind (arith, around_split)

-- A chunk replaced by one of its length: both are gaps, or neither is.
module _ {heap : Region} {B : List ℕ} {chunk : Chunk} (a : Around heap B chunk) {new : Region} {B' : List ℕ} (other : Chunk)
    (span : new.span ≡ heap.span) (header : new.header ≡ heap.header) (footprint : new.footprint ≡ heap.footprint)
    (changes : ChangesOnly (heap.span.at + chunk.at) chunk.len B B') (told : chunk_at B' heap.span.at chunk.at ≡ other)
    (len : other.len ≡ chunk.len) (enough : least_len heap.header other ≤ other.len)
    (kind : (chunk.owner ≢ None → other.owner ≢ None) × (other.owner ≡ None → chunk.owner ≡ None)) where
  pub swapped : Spliced heap new B B' a.before (other ∷ []) a.behind
  swapped = spliced heap new B B' chunk.at (chunk.at + chunk.len) a.before (other ∷ []) a.behind span header a.has.within
      (grind arith)
      a.front (told, enough, ap (λ n. chunk.at + n) len) (grind arith)
      (joined_swap heap.header a.before (chunk ∷ a.behind) (other ∷ a.behind) kind.0 a.joined (grind arith))

module _ (p : Block → Bool) where
  pub filter_between : (x y : ℕ) (xs : List Block) → Between x y xs → Between x y (filter p xs)
  filter_between x y [] h = tt
  filter_between x y (block ∷ xs) h = grind (arith, filter_between x y xs h.2)

  -- a block that passes the filter is put among those that pass
  pub filter_placed : (top : ℕ) (block : Block) (xs : List Block) → p block ≡ true → Ascending top xs
      → filter p (placed block xs) ≡ placed block (filter p xs)
  filter_placed top block [] stays h = rw stays refl
  filter_placed top block (x ∷ xs) stays h = grind (arith, between_more, placed_front, filter_between, filter_placed top block xs stays h.2)
