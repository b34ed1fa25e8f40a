-- The walk along the links to the gaps beside a position.
use Rattle.heap_core.proofs.Lemmas.Words.{word_at, slice_range, range-range, ◌≡◌, ◌≢◌, ℕ, ◌+◌, ◌≤◌, ◌<◌, List, [], ◌∷◌, refl, sym, ap, ◌∙◌, arith, Option, Some, None, IfSome, fold, option_map, Chunk, Region, chunk_at, chunks_of, HasChunks, gaps_among, LinkedTo, Follow, below_from, gap_below, gap_from, ◌^◌, place_in_link, option_map_or, cases_Bool, ltb-false, Gap, best_gap, gaps, store_of, if◌then◌else◌, Candidate, Fit, gap_found, place_below, Starts, IsLink, IsSomeAnd, inl, inr, subst, cases_lt}
use Rattle.std.specs.Prelude.{nat_lt, ◌==◌}
use Rattle.heap_core.proofs.Lemmas.Lists.{link_small, lowest_small, next_gap, no_gap, followed, NextGap}
use Rattle.heap_core.proofs.Lemmas.ChunkHeaders.{place_told}
use Rattle.heap_core.proofs.Lemmas.Gaps.{better_chunk, better_same, gaps_are}

module _ (word : ℕ) where
  -- The words that the walk stores encode positions.
  word_told : word ≢ 4294967295 → place_in_link word ≡ Some word
  word_told some = grind arith

  word_below : (at : ℕ) → at < 2 ^ 32 → word < at → place_in_link word ≡ Some word
  word_below at small less = grind arith

  -- a walk ends at a word that is no lower than the position
  stops : (B : List ℕ) (b from end p : ℕ) (found : Option Chunk) (left : List Chunk) → Follow B b from end (place_in_link word) left
      → p ≤ word → (below_from p found left ≡ found) × (gap_from p left ≡ place_in_link word)
  stops B b from end p found [] follow far = (refl, sym follow)
  stops B b from end p found (gap ∷ left) follow far = grind arith

-- the state of a walk: the last gap found, and the gaps not passed yet
pub record Walked (heap : Region) (B : List ℕ) (p : ℕ) (below next : Option ℕ) : Type 0 where
  pub left : List Chunk
  pub from : ℕ
  pub follow : Follow B heap.span.at from heap.footprint next left
  pub found : Option Chunk
  pub place : option_map (λ (gap : Chunk). gap.at) found ≡ below
  pub lowered : below_from p found left ≡ gap_below p (gaps_among (chunks_of heap B))
  pub highered : gap_from p left ≡ gap_from p (gaps_among (chunks_of heap B))

-- the gaps from one that is below a position, which a walk may begin at
record Later (B : List ℕ) (b end p : ℕ) (place : ℕ) (found : Option Chunk) (all : List Chunk) : Type 0 where
  left : List Chunk
  from : ℕ
  follow : Follow B b from end (Some place) left
  lowered : below_from p None left ≡ below_from p found all
  highered : gap_from p left ≡ gap_from p all

later : (B : List ℕ) (b from end p place : ℕ) (head : Option ℕ) (found : Option Chunk) (all : List Chunk) → Follow B b from end head all
    → place < p → gap_from place all ≡ Some place → Later B b end p place found all
later B b from end p place head found [] follow less is = absurd (cc)
later B b from end p place head found (gap ∷ all) follow less is = elim (cases_lt gap.at place) [
  | inl low ↦ let l = later B b (gap.at + 1) end p place gap.link (Some gap) all follow.5 less (grind arith) in
      record { left = l.left; from = l.from; follow = l.follow; lowered = grind arith; highered = grind arith }
  | inr high ↦ record { left = gap ∷ all; from = from; follow = grind arith; lowered = grind arith; highered = refl }
]

module _ {heap : Region} {B : List ℕ} {p : ℕ} where
  walk_begun : HasChunks heap B → LinkedTo heap.lowest (chunks_of heap B) None → Walked heap B p None heap.lowest
  walk_begun has linked = grind (arith, followed)

  walk_later : HasChunks heap B → LinkedTo heap.lowest (chunks_of heap B) None → (start : Option ℕ)
      → IsSomeAnd start (λ place. (place < p) × (gap_from place (gaps_among (chunks_of heap B)) ≡ Some place)) → Walked heap B p None start
  walk_later has linked None some = absurd some
  walk_later has linked (Some place) some =
      let l = later B heap.span.at 0 heap.footprint p place heap.lowest None (gaps_among (chunks_of heap B))
      (followed heap.header B heap.span.at 0 heap.footprint heap.lowest (chunks_of heap B) has.told linked).0 some.0 some.1 in
      record {
        left = l.left;
        from = l.from;
        follow = l.follow;
        found = None;
        place = refl;
        lowered = l.lowered;
        highered = l.highered;
      }

  pub walk_from : HasChunks heap B → LinkedTo heap.lowest (chunks_of heap B) None → {start : Option ℕ} → Starts heap B p start
      → Walked heap B p None start
  walk_from has linked {start} starts = elim starts [
    | inl lowest ↦ subst (Walked heap B p None) (sym lowest) (walk_begun has linked)
    | inr some ↦ walk_later has linked start some
  ]

  module _ {below : Option ℕ} {word : ℕ} (w : Walked heap B p below (place_in_link word)) (less : word < p) (small : p < 2 ^ 32) where
    abbrev gap : Chunk
    gap = chunk_at B heap.span.at word

    pub walk_step : NextGap B heap.span.at heap.footprint word w.left
    walk_step = next_gap B heap.span.at w.from heap.footprint w.left (word_below word p small less) w.follow

    pub walk_more : {new : Option ℕ} → new ≡ gap.link → Walked heap B p (place_in_link word) new
    walk_more {new} link =
        grind (arith, walk_step)

  pub stop : {below : Option ℕ} (word : ℕ) → Walked heap B p below (place_in_link word) → p ≤ word
      → (below ≡ option_map (λ (gap : Chunk). gap.at) (gap_below p (gaps_among (chunks_of heap B))))
      × (place_in_link word ≡ gap_from p (gaps_among (chunks_of heap B)))
  stop word w far =
      let s = stops word B heap.span.at w.from heap.footprint p w.found w.left w.follow far in
      (sym w.place ∙ ap (option_map (λ (gap : Chunk). gap.at)) (sym s.0 ∙ w.lowered), sym s.1 ∙ w.highered)

module _ {heap : Region} {B : List ℕ} where
  pub start_small : (p : ℕ) → HasChunks heap B → LinkedTo heap.lowest (chunks_of heap B) None → {start : Option ℕ} → Starts heap B p start
      → IsLink start
  start_small p has linked {start} starts = elim starts [
    | inl lowest ↦ subst IsLink (sym lowest) (lowest_small has linked)
    | inr some ↦ later_small has start some
  ]
    where
      later_small : HasChunks heap B → (start : Option ℕ)
          → IsSomeAnd start (λ place. (place < p) × (gap_from place (gaps_among (chunks_of heap B)) ≡ Some place)) → IsLink start
      later_small has None some = absurd some
      later_small has (Some place) some = link_small has place (sym some.1)

module _ (B : List ℕ) where
  -- the gap found has its header at its position
  abbrev pub HasHeader : ℕ → ℕ → Chunk → Type 0
  HasHeader b end gap = (chunk_at B b gap.at ≡ gap) × (gap.at + 12 ≤ end)

  lower_told : (b from end p : ℕ) (head : Option ℕ) (found : Option Chunk) (gaps : List Chunk) → Follow B b from end head gaps
      → IfSome found (HasHeader b end) → IfSome (below_from p found gaps) (HasHeader b end)
  lower_told b from end p head found [] follow h = h
  lower_told b from end p head found (gap ∷ gaps) follow h =
      grind (arith, lower_told b (gap.at + 1) end p gap.link (Some gap) gaps follow.5)

-- The search along the links for the shortest gap that is long enough.

module _ (need : ℕ) where
  -- a gap of exactly that length stays the best one
  exact_kept : (found : Gap) (gaps : List Chunk) → found.len ≤ need → fold (better_chunk need) (Some found) gaps ≡ Some found
  exact_kept found [] exact = refl
  exact_kept found (gap ∷ gaps) exact = grind (arith, exact_kept found gaps exact)

  -- so the search may stop at it
  pub exact_is_best : (best : Option Gap) (gap : Chunk) (later : List Chunk) → gap.len ≡ need
      → fold (better_chunk need) (better_chunk need best gap) later ≡ better_chunk need best gap
  exact_is_best None gap later exact = grind (arith, exact_kept)
  exact_is_best (Some other) gap later exact = grind (
    arith,
    better_chunk,
    cases_Bool,
    ltb-false,
    exact_kept other later,
    exact_kept
        (record { at = gap.at; len = gap.len }) later,
  )

  module _ (best : Option Gap) where
    module _ (gap : Chunk) where
      -- a gap that is too short changes nothing
      short_leaves_best : gap.len < need → best ≡ better_chunk need best gap
      short_leaves_best less = grind arith

module _ (heap : Region) where
  module _ (B : List ℕ) where
    pub below_told : (p : ℕ) → HasChunks heap B → LinkedTo heap.lowest (chunks_of heap B) None
        → IfSome (gap_below p (gaps_among (chunks_of heap B))) (HasHeader B heap.span.at heap.footprint)
    below_told p has linked = grind (arith, lower_told, followed)

    -- the gap found has its highest gap below, and its words are small
    pub record IsMarked (best : Candidate) : Type 0 where
      pub is : IfSome (gap_found best) (λ gap. place_in_link best.below ≡ place_below gap.at (gaps_among (chunks_of heap B)))
      pub at : best.at < 4294967296
      pub len : best.len ≤ 4294967296
      pub below : best.below < 4294967296

    -- the state of the search: the best gap so far, the last one passed, and the gaps not passed yet
    pub record Searched (need : ℕ) (best : Candidate) (last next : Option ℕ) : Type 0 where
      pub left : List Chunk
      pub from : ℕ
      pub follow : Follow B heap.span.at from heap.footprint next left
      pub is : fold (better_chunk need) (gap_found best) left ≡ best_gap need (gaps (store_of heap B))
      pub passed : Option Chunk
      pub place : option_map (λ (gap : Chunk). gap.at) passed ≡ last
      pub lowered : (p : ℕ) → from ≤ p → below_from p passed left ≡ gap_below p (gaps_among (chunks_of heap B))
      pub high : from ≤ heap.footprint
      pub marked : IsMarked best

    -- what the search returns
    pub record IsFit (need : ℕ) (fit : Fit) : Type 0 where
      pub gap : fit.gap ≡ best_gap need (gaps (store_of heap B))
      pub below : fit.below ≡ place_below (option_map_or (λ (gap : Gap). gap.at) fit.gap heap.footprint) (gaps_among (chunks_of heap B))

module _ {heap : Region} {B : List ℕ} {need : ℕ} where
  pub search_begun : HasChunks heap B → LinkedTo heap.lowest (chunks_of heap B) None
      → Searched heap B need (record { at = 4294967295; len = 4294967296; below = 4294967295 }) None heap.lowest
  search_begun has linked = grind (arith, followed, better_same, gaps_are)

  pub search_ended : {best : Candidate} (last : ℕ) {next : Option ℕ} {fit : Fit} → next ≡ None
      → Searched heap B need best (place_in_link last) next → fit.gap ≡ gap_found best
      → fit.below ≡ place_in_link (if best.len == 4294967296 then last else best.below) → IsFit heap B need fit
  search_ended {best} last {next} {fit} none s gap_is below =
      grind (arith, no_gap B heap.span.at s.from heap.footprint s.left none s.follow, s.lowered heap.footprint s.high)

  module _ {best : Candidate} {last : Option ℕ} {word len : ℕ} (s : Searched heap B need best last (place_in_link word))
      (some : word ≢ 4294967295) (len_is : len ≡ (chunk_at B heap.span.at word).len) where
    abbrev chunk : Chunk
    chunk = chunk_at B heap.span.at word

    pub next_met : NextGap B heap.span.at heap.footprint word s.left
    next_met = next_gap B heap.span.at s.from heap.footprint s.left (word_told word some) s.follow

    -- the last gap passed is the highest one below this one
    last_is : last ≡ place_below word (gaps_among (chunks_of heap B))
    last_is = grind (arith, next_met, place_told, s.lowered word)

    more : {new : Candidate} {link : Option ℕ} → gap_found new ≡ better_chunk need (gap_found best) chunk → IsMarked heap B new
        → link ≡ chunk.link → Searched heap B need new (place_in_link word) link
    more {new} {link} e marked link_is = record {
      left = next_met.later;
      from = word + 1;
      follow = grind (arith, next_met);
      is = grind (arith, next_met);
      passed = Some chunk;
      place = grind (arith, place_told);
      lowered = λ p low. grind (arith, next_met, place_told, s.lowered p);
      high = omega (arith, next_met.fits);
      marked = marked;
    }

    pub search_past_short : len < need → {link : Option ℕ} → link ≡ chunk.link → Searched heap B need best (place_in_link word) link
    search_past_short less {link} = more (short_leaves_best need (gap_found best) chunk (omega arith)) s.marked

    module _ {found : Candidate} {below : ℕ}
        (compared : found ≡ (let this : Candidate = record { at = word; len = len; below = below } in if nat_lt len best.len then this else best))
        (last_told : last ≡ place_in_link below) (enough : need ≤ len) (small : (word < 4294967296) × (len < 4294967296) × (below < 4294967296)) where
      found_is : gap_found found ≡ better_chunk need (gap_found best) chunk
      found_is = grind (arith, place_told, s.marked, cases_Bool)

      found_marked : IsMarked heap B found
      found_marked = grind (arith, last_is, s.marked, cases_Bool)

      pub search_past_long : {link : Option ℕ} → link ≡ chunk.link → Searched heap B need found (place_in_link word) link
      search_past_long {link} = more found_is found_marked

      pub search_exact : len ≡ need → {fit : Fit} → fit.gap ≡ gap_found found
          → fit.below ≡ place_in_link (if found.len == 4294967296 then below else found.below) → IsFit heap B need fit
      search_exact exact {fit} gap_is is = grind (arith, next_met, exact_is_best, found_is, found_marked)

module _ (B : List ℕ) where
  -- the gap that begins at the stored position
  pub gap_kept : (b end place : ℕ) (found : Option Chunk) → Some place ≡ option_map (λ (gap : Chunk). gap.at) found
      → IfSome found (HasHeader B b end) → (found ≡ Some (chunk_at B b place)) × (place + 12 ≤ end)
  gap_kept b end place found is h = grind arith

  -- a word of the span, read from all bytes
  pub word_inside : (b len at place : ℕ) → at + 4 ≤ len → b + at ≡ place
      → word_at (slice_range B b (b + len)) at ≡ word_at B place
  word_inside b len at place fits is = grind (arith, range-range)
