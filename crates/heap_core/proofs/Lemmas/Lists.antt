-- The list of the gaps: walks along it, and what remains if chunks are exchanged.
use Rattle.heap_core.proofs.Lemmas.Words.{◌≡◌, ◌≢◌, ℕ, ◌+◌, ◌*◌, ◌≤◌, ◌<◌, ◌⊎◌, inl, List, [], ◌∷◌, ◌++◌, length, refl, sym, ap, ◌∙◌, subst, arith, Option, Some, None, IfSome, fold, append_assoc, length-append, Chunk, Region, chunk_at, Tell, chunks_of, HasChunks, gaps_among, behind_link, LinkedTo, Stands, gap_count, Follow, below_from, gap_below, gap_from, last_of, place_in_link, Relinked, KeepsFreed, append-nil, front_gap, ChangesOnly, store_of, LinkChanged, OnlyAt, Cut, Spliced, filter, Block, LiveIn, blocks_in, GapsLinked, without_place, with_block, filter-append, IsLink}
use Rattle.heap_core.proofs.Lemmas.ChunkHeaders.{store_with, Around, place_told, told_append, told_le, around, blocks_append, changes_more, around_split, live_kept, In, swapped, in_of, in_told, in_without, elsewhere, filter_elsewhere, blocks_between, placed_front, placed_behind}
use Rattle.heap_core.proofs.Lemmas.Gaps.{gaps_append, gap_first}

pub gaps_counted : (before mid behind : List Chunk)
    → length (gaps_among (before ++ (mid ++ behind))) ≡ length (gaps_among before) + (length (gaps_among mid) + length (gaps_among behind))
gaps_counted before mid behind = grind (arith, gaps_append, length-append)

pub linked_append : (head mid end : Option ℕ) (l r : List Chunk) → LinkedTo head l mid → LinkedTo mid r end → LinkedTo head (l ++ r) end
linked_append head mid end [] r h k = grind arith
linked_append head mid end (c ∷ l) r h k = (h.0, linked_append (behind_link head c c.owner) mid end l r h.1 k)

pub record Parted (head end : Option ℕ) (l r : List Chunk) : Type 0 where
  pub mid : Option ℕ
  pub front : LinkedTo head l mid
  pub back : LinkedTo mid r end

pub linked_parted : (head end : Option ℕ) (l r : List Chunk) → LinkedTo head (l ++ r) end → Parted head end l r
linked_parted head end [] r h = record { mid = head; front = refl; back = h }
linked_parted head end (c ∷ l) r h = grind (arith, linked_parted (behind_link head c c.owner) end l r h.1)

follow_lower : (B : List ℕ) (b from end lower : ℕ) (head : Option ℕ) (l : List Chunk) → lower ≤ from → Follow B b from end head l
    → Follow B b lower end head l
follow_lower B b from end lower head [] le h = h
follow_lower B b from end lower head (c ∷ l) le h = grind arith

pub followed : (header : ℕ) (B : List ℕ) (b x end : ℕ) (head : Option ℕ) (l : List Chunk) → Tell header B b x end l → LinkedTo head l None
    → Follow B b x end head (gaps_among l) × (x + 12 * length (gaps_among l) ≤ end)
followed header B b x end head [] t h = (h, omega arith)
followed header B b x end head (c ∷ l) t h = grind (
  arith,
  follow_lower,
  place_told B b x c t.0,
  followed header B b
      (x + c.len) end head l t.2,
  followed header B b (x + c.len) end c.link l t.2,
)

module _ (head : Option ℕ) where
  -- without a gap nothing is linked
  pub linked_none : (l : List Chunk) → gaps_among l ≡ [] → LinkedTo head l head
  linked_none [] e = refl
  linked_none (c ∷ l) e = grind (arith, linked_none l)

  -- what is below a position, and what is from there on
  pub record Ends (p : ℕ) (all before behind : List Chunk) : Type 0 where
    pub front : LinkedTo head before (gap_from p (gaps_among all))
    pub last : gap_below p (gaps_among all) ≡ last_of (gaps_among before)
    pub back : LinkedTo (gap_from p (gaps_among all)) behind None

-- the gap below a position, and the one from a position on
module _ (header : ℕ) (B : List ℕ) (b : ℕ) where
  module _ (p : ℕ) where
    gap_from_small : (x y most : ℕ) (l : List Chunk) → Tell header B b x y l → y ≤ most
        → IfSome (gap_from p (gaps_among l)) (λ place. place < most)
    gap_from_small x y most [] t le = tt
    gap_from_small x y most (c ∷ l) t le =
        grind (arith, gap_from_small (x + c.len) y most l t.2 le, told_le header B b (x + c.len) y l t.2, place_told B b x c t.0)

    passed : (x y : ℕ) (found : Option Chunk) (l : List Chunk) (gaps : List Chunk) → Tell header B b x y l → y ≤ p
        → (gap_from p (gaps_among l ++ gaps) ≡ gap_from p gaps)
        × (below_from p found (gaps_among l ++ gaps) ≡ below_from p (fold (λ _ gap. Some gap) found (gaps_among l)) gaps)
    passed x y found [] gaps t le = (refl, refl)
    passed x y found (c ∷ l) gaps t le =
        grind (
          arith,
          passed (x + c.len) y (Some c) l gaps t.2 le,
          passed (x + c.len) y found l gaps t.2 le,
          told_le header B b
              (x + c.len) y l t.2,
          place_told B b x c t.0,
        )

    stopped : (x y : ℕ) (head : Option ℕ) (found : Option Chunk) (l : List Chunk) → Tell header B b x y l → p ≤ x → LinkedTo head l None
        → (gap_from p (gaps_among l) ≡ head) × (below_from p found (gaps_among l) ≡ found)
    stopped x y head found [] t le h = (sym h, refl)
    stopped x y head found (c ∷ l) t le h =
        grind (arith, stopped (x + c.len) y head found l t.2 (omega arith), place_told B b x c t.0)

  pub list_ends : (head : Option ℕ) (p end : ℕ) (before behind : List Chunk) → LinkedTo head (before ++ behind) None
      → Tell header B b 0 p before → Tell header B b p end behind → Ends head p (before ++ behind) before behind
  list_ends head p end before behind h front back =
      let first = linked_parted head None before behind h in
      grind (
        arith,
        gaps_append,
        stopped p p end first.mid (last_of (gaps_among before)) behind back (omega arith) first.back,
        passed p 0 p None before (gaps_among behind) front (omega arith),
      )

some_last : (c : Chunk) (gaps : List Chunk) → fold (λ _ gap. Some gap) (Some c) gaps ≢ None
some_last c [] e = absurd (cc)
some_last c (d ∷ gaps) e = some_last d gaps e

-- the first gap along the links
pub record NextGap (B : List ℕ) (b end at : ℕ) (all : List Chunk) : Type 0 where
  pub later : List Chunk
  pub is : all ≡ chunk_at B b at ∷ later
  pub free : (chunk_at B b at).owner ≡ None
  pub fits : at + 12 ≤ end
  pub follow : Follow B b (at + 1) end (chunk_at B b at).link later

module _ (B : List ℕ) (b from end : ℕ) {head : Option ℕ} where
  pub next_gap : (l : List Chunk) {at : ℕ} → head ≡ Some at → Follow B b from end head l → NextGap B b end at l
  next_gap [] {at} e h = cc
  next_gap (c ∷ l) {at} e h =
      grind arith

  pub no_gap : (l : List Chunk) → head ≡ None → Follow B b from end head l → l ≡ []
  no_gap [] e h = refl
  no_gap (c ∷ l) e h = cc

  pub rises : (l : List Chunk) (word : ℕ) → head ≡ place_in_link word → from ≤ 4294967295 → Follow B b from end head l → from ≤ word
  rises [] word e most h = grind arith
  rises (c ∷ l) word e most h = grind arith

module _ (len : ℕ) where
  pub count_some : 0 < len → gap_count len ≡ 1
  count_some some = grind arith

module _ (c : Chunk) where
  pub live_none : c.owner ≢ None → gaps_among (c ∷ []) ≡ []
  live_none live = grind arith

pub record LastGap (gap : Chunk) (l : List Chunk) : Type 0 where
  pub before : List Chunk
  pub behind : List Chunk
  pub is : l ≡ before ++ (gap ∷ behind)
  pub free : gap.owner ≡ None
  pub none : gaps_among behind ≡ []

last_here : {gap : Chunk} (c : Chunk) (l : List Chunk) → c ≡ gap → c.owner ≡ None → gaps_among l ≡ [] → LastGap gap (c ∷ l)
last_here c l same free none = record { before = []; behind = l; is = grind arith; free = grind arith; none = none }

last_later : {gap : Chunk} (c : Chunk) {l : List Chunk} → LastGap gap l → LastGap gap (c ∷ l)
last_later c k =
    record { before = c ∷ k.before; behind = k.behind; is = grind arith; free = k.free; none = k.none }

last_found : (gap : Chunk) (found : Option Chunk) (l : List Chunk) → fold (λ _ gap. Some gap) found (gaps_among l) ≡ Some gap
    → ((found ≡ Some gap) × (gaps_among l ≡ [])) ⊎ LastGap gap l
last_found gap found [] e = inl (e, refl)
last_found gap found (c ∷ l) e =
    grind (arith, last_here, last_later, last_found gap found l, last_found gap (Some c) l)

pub last_gap : (gap : Chunk) (l : List Chunk) → last_of (gaps_among l) ≡ Some gap → LastGap gap l
last_gap gap l e = grind (arith, last_found)

pub no_last : (l : List Chunk) → last_of (gaps_among l) ≡ None → gaps_among l ≡ []
no_last l e = none (gaps_among l) e
  where
    none : (gaps : List Chunk) → last_of gaps ≡ None → gaps ≡ []
    none [] e = refl
    none (c ∷ gaps) e = absurd (some_last c gaps e)

-- the last gap of a prefix is one of all gaps
abbrev pub IsGapOf : List Chunk → Chunk → Type 0
IsGapOf all gap = Stands gap all × (gap.owner ≡ None)

last_stands : (last : Option Chunk) (before rest all : List Chunk) → last ≡ last_of (gaps_among before) → all ≡ before ++ rest
    → IfSome last (IsGapOf all)
last_stands None before rest all e is = tt
last_stands (Some gap) before rest all e is = let l = last_gap gap before (sym e) in
    (record { before = l.before; behind = l.behind ++ rest; is = grind (arith, append_assoc) }, l.free)

pub kept_then : {a b c : Region} → KeepsFreed a b → KeepsFreed b c → KeepsFreed a c
kept_then first second = grind arith

pub link_small : {heap : Region} {B : List ℕ} → HasChunks heap B → {link : Option ℕ} (at : ℕ)
    → link ≡ gap_from at (gaps_among (chunks_of heap B))
    → IsLink link
link_small {heap} {B} has {link} at e =
    grind (arith, gap_from_small heap.header B heap.span.at at 0 heap.footprint 65536 (chunks_of heap B) has.told)

pub lowest_small : {heap : Region} {B : List ℕ} → HasChunks heap B → LinkedTo heap.lowest (chunks_of heap B) None → IsLink heap.lowest
lowest_small {heap} {B} has linked = link_small has 0
    (sym (stopped heap.header B heap.span.at 0 0 heap.footprint heap.lowest None (chunks_of heap B) has.told (omega arith) linked).0)

-- two lists of the same gaps have one head
linked_same : (one other end : Option ℕ) (l : List Chunk) → LinkedTo one l end → LinkedTo other l end → one ≡ other
linked_same one other end [] h k = h ∙ sym k
linked_same one other end (c ∷ l) h k = grind (arith, linked_same one other end l)

-- it begins with a gap
record BeginsFree (l : List Chunk) : Type 0 where
  pub gap : Chunk
  pub later : List Chunk
  pub is : l ≡ gap ∷ later
  pub free : gap.owner ≡ None
  pub len : front_gap l ≡ gap.len

begins_free : (l : List Chunk) → front_gap l ≢ 0 → BeginsFree l
begins_free l some = grind arith

abbrev from_place : Region → List ℕ → ℕ → Option ℕ
from_place heap B at = gap_from at (gaps_among (chunks_of heap B))

module _ {heap : Region} {B : List ℕ} where
  pub gaps_few : HasChunks heap B → LinkedTo heap.lowest (chunks_of heap B) None
      → 12 * length (gaps_among (chunks_of heap B)) ≤ heap.footprint
  gaps_few has linked = grind (arith, followed)

  pub above_all : HasChunks heap B → from_place heap B heap.footprint ≡ None
  above_all has = ap (gap_from heap.footprint) (sym (append-nil (gaps_among (chunks_of heap B))))
      ∙ (passed heap.header B heap.span.at heap.footprint 0 heap.footprint None (chunks_of heap B) [] has.told (omega arith)).0

  -- the list below the removed chunks, and after them
  module _ {p q at : ℕ} (cut : Cut heap B p q at) (linked : LinkedTo heap.lowest (chunks_of heap B) None) where
    pub cut_low : Ends heap.lowest p (chunks_of heap B) cut.before (cut.gone ++ cut.behind)
    cut_low =
        grind (arith, list_ends, told_append heap.header B heap.span.at p q heap.footprint cut.gone cut.behind cut.mid cut.back)

    pub cut_high : Ends heap.lowest q (chunks_of heap B) (cut.before ++ cut.gone) cut.behind
    cut_high =
        grind (
          arith,
          list_ends,
          cut.is ∙ sym (append_assoc cut.before cut.gone cut.behind),
          told_append heap.header B heap.span.at 0 p q cut.before cut.gone cut.front cut.mid,
        )

  -- the cut that removes one chunk
  abbrev pub cut_at : {chunk : Chunk} (a : Around heap B chunk) → Cut heap B chunk.at (chunk.at + chunk.len) chunk.at
  cut_at {chunk} a = record {
    has = a.has;
    before = a.before;
    gone = chunk ∷ [];
    behind = a.behind;
    is = a.is;
    front = a.front;
    mid = (a.here, a.enough, refl);
    back = a.back;
    only = ((λ _. refl), tt);
    low = omega arith;
    high = inl (omega (arith, a.enough));
  }

  module _ {chunk : Chunk} (a : Around heap B chunk) (linked : LinkedTo heap.lowest (chunks_of heap B) None) where
    ends_over : Ends heap.lowest (chunk.at + chunk.len) (chunks_of heap B) (a.before ++ (chunk ∷ [])) a.behind
    ends_over = cut_high (cut_at a) linked

    ends_below : Ends heap.lowest chunk.at (chunks_of heap B) a.before (chunk ∷ a.behind)
    ends_below = cut_low (cut_at a) linked

    -- the gap below a chunk is the last one before it
    pub below_is : gap_below chunk.at (gaps_among (chunks_of heap B)) ≡ last_of (gaps_among a.before)
    below_is = ends_below.last

    -- a gap is linked to the one that follows it
    pub behind_gap : chunk.owner ≡ None → chunk.link ≡ from_place heap B (chunk.at + chunk.len)
    behind_gap free = grind (arith, ends_over, ends_below, linked_same)

    pub leads_to_gap : chunk.owner ≡ None → from_place heap B chunk.at ≡ Some chunk.at
    leads_to_gap free = grind (arith, ends_below)

    module _ (live : chunk.owner ≢ None) where
      pub over_live : from_place heap B chunk.at ≡ from_place heap B (chunk.at + chunk.len)
      over_live = grind (arith, ends_below, ends_over, linked_same)

      module _ (some : front_gap a.behind ≢ 0) where
        first : BeginsFree a.behind
        first = begins_free a.behind some

        gap_told : Tell heap.header B heap.span.at (chunk.at + chunk.len) heap.footprint (first.gap ∷ first.later)
        gap_told = grind arith

        gap_place : first.gap.at ≡ chunk.at + chunk.len
        gap_place = place_told B heap.span.at (chunk.at + chunk.len) first.gap gap_told.0

        gap_around : Around heap B first.gap
        gap_around = around a.has (record {
          before = a.before ++ (chunk ∷ []);
          behind = first.later;
          is = a.is ∙ ap (λ l. a.before ++ (chunk ∷ l)) first.is ∙ sym (append_assoc a.before (chunk ∷ []) (first.gap ∷ first.later));
        })

        pub gap_fits : chunk.at + chunk.len + 12 ≤ heap.footprint
        gap_fits = omega (arith, gap_place, gap_around.fits, gap_around.enough)

-- a gap directly after a live chunk is linked to the next one
pub over_gap : {heap : Region} {B : List ℕ} {chunk : Chunk} (a : Around heap B chunk) → LinkedTo heap.lowest (chunks_of heap B) None
    → chunk.owner ≢ None → front_gap a.behind ≢ 0
    → (chunk_at B heap.span.at (chunk.at + chunk.len)).link ≡ gap_from (chunk.at + chunk.len + front_gap a.behind)
    (gaps_among (chunks_of heap B))
over_gap a linked live some =
    grind (arith, gap_place, gap_around, gap_told, behind_gap, first a linked live some)

pub starts_after : {heap : Region} {B : List ℕ} {chunk : Chunk} (a : Around heap B chunk) → LinkedTo heap.lowest (chunks_of heap B) None
    → chunk.owner ≢ None → front_gap a.behind ≢ 0 → from_place heap B (chunk.at + chunk.len) ≡ Some (chunk.at + chunk.len)
starts_after a linked live some = grind (arith, gap_place, gap_around, gap_told, leads_to_gap, first a linked live some)

-- Chunks that go, and chunks that replace them.
only_at : (at : ℕ) (c : Chunk) (l : List Chunk) → OnlyAt at l → c.owner ≢ None → In c l → c.at ≡ at
only_at at c [] only live k = absurd k
only_at at c (d ∷ l) only live k = grind (arith, only_at at c l only.1 live)

pub only_append : (at : ℕ) (l r : List Chunk) → OnlyAt at l → OnlyAt at r → OnlyAt at (l ++ r)
only_append at [] r h k = k
only_append at (c ∷ l) r h k = (h.0, only_append at l r h.1 k)

only_blocks : (header : ℕ) (B : List ℕ) (b at : ℕ) (l : List Chunk) → OnlyAt at l → filter (elsewhere at) (blocks_in header B b l) ≡ []
only_blocks header B b at [] only = refl
only_blocks header B b at (c ∷ l) only = grind (arith, only_blocks header B b at l only.1)

module _ {heap : Region} {B : List ℕ} {p q at : ℕ} (cut : Cut heap B p q at) where
  abbrev b : ℕ
  b = heap.span.at

  abbrev all : List Chunk
  all = chunks_of heap B

  abbrev xs : List Block
  xs = blocks_in heap.header B b cut.before

  abbrev ys : List Block
  ys = blocks_in heap.header B b cut.behind

  -- the blocks of the others
  pub cut_left : filter (elsewhere at) (store_of heap B).blocks ≡ xs ++ ys
  cut_left = grind (arith, filter_elsewhere, blocks_between, only_blocks, blocks_append, filter-append)

  none_of : (c : Chunk) → c.owner ≢ None → c.at ≢ at → In c cut.gone → ⊥
  none_of c live far k = grind (arith, only_at)

  pub cut_apart : (c : Chunk) → LiveIn c all → c.at ≢ at
      → (c.at + heap.header + c.size ≤ p) ⊎ ((q ≤ c.at) × (c.at < heap.footprint))
  cut_apart c h far =
      grind (
        arith,
        in_told,
        in_without c cut.before cut.gone cut.behind (none_of c h.live far)
            (subst (In c) cut.is (in_of c all h.stands)),
      )

  module _ {new : Region} {B' : List ℕ} {mid : List Chunk} (e : Spliced heap new B B' cut.before mid cut.behind) where
    pub edit_kept : (c : Chunk) → LiveIn c all → c.at ≢ at → LiveIn c (chunks_of new B')
    edit_kept c h far = grind (arith, live_kept, only_at)

    pub edit_gone : blocks_in heap.header B' b mid ≡ [] → store_of new B' ≡ without_place at (store_of heap B)
    edit_gone none = grind (arith, cut_left)

    pub edit_put : (block : Block) (olds : List Block) → block.at ≡ at → blocks_in heap.header B' b mid ≡ block ∷ [] → olds ≡ xs ++ ys
        → store_of new B' ≡ with_block block (store_with heap olds)
    edit_put block olds place is left = grind (arith, placed_front, blocks_between, placed_behind)

    pub edit_count : length (gaps_among (chunks_of new B')) + length (gaps_among cut.gone) ≡ length (gaps_among all) + length
        (gaps_among mid)
    edit_count = grind (arith, gaps_counted)

    module _ (linked : LinkedTo heap.lowest all None) where
      pub edit_last : {last : Option Chunk} → last ≡ gap_below p (gaps_among all) → IfSome last (IsGapOf (chunks_of new B'))
      edit_last {last} at_last = grind (arith, last_stands, cut_low cut linked)

    -- the gap before them is linked again, or leads there already
    module _ (linked : LinkedTo heap.lowest all None) {first link : Option ℕ} (laid : LinkedTo first mid link)
        (at_link : link ≡ gap_from q (gaps_among all)) where
      pub edit_list : {last : Option Chunk} → last ≡ gap_below p (gaps_among all) → (after : Region) (B3 : List ℕ)
          → new.lowest ≡ heap.lowest → Relinked new after B' B3 last first → LinkedTo after.lowest (chunks_of after B3) None
      edit_list {last} at_last after B3 same relinked = grind (arith, linked_append, cut_high cut linked, cut_low cut linked)

      pub edit_grown : gap_from p (gaps_among all) ≡ first → new.lowest ≡ heap.lowest → LinkedTo new.lowest (chunks_of new B') None
      edit_grown there same = grind (arith, linked_append, cut_high cut linked, cut_low cut linked)

-- if a live chunk is replaced by another one, the gaps stay
pub swapped_list : {heap new : Region} {B B' : List ℕ} {chunk other : Chunk} (a : Around heap B chunk)
    → Spliced heap new B B' a.before (other ∷ []) a.behind → chunk.owner ≢ None → other.owner ≢ None → new.lowest ≡ heap.lowest
    → new.gaps ≡ heap.gaps → GapsLinked heap B → GapsLinked new B'
swapped_list {heap} {new} {B} {B'} {chunk} {other} a e live live' lowest gaps g =
    let none = live_none other live' in
    record {
      linked = edit_grown (cut_at a) e g.linked (linked_none (gap_from chunk.at (gaps_among (chunks_of heap B))) (other ∷ []) none)
          (over_live a g.linked live) refl lowest;
      count = omega (arith, gaps, g.count, edit_count (cut_at a) e, ap length none, ap length (live_none chunk live));
    }

-- the last gap is linked elsewhere
linked_again : (head end first : Option ℕ) (gap new : Chunk) (before behind : List Chunk) → gap.owner ≡ None → new.owner ≡ None
    → new.at ≡ gap.at → new.link ≡ first → gaps_among behind ≡ []
    → LinkedTo head (before ++ (gap ∷ behind)) end → LinkedTo head (before ++ (new ∷ behind)) first
linked_again head end first gap new before behind free free' at link none h =
    grind (arith, linked_parted, linked_append, linked_none)

module _ {heap : Region} {B : List ℕ} {gap : Chunk} (a : Around heap B gap) (first : Option ℕ) (free : gap.owner ≡ None) where
  abbrev new : Chunk
  new = record { at = gap.at; len = gap.len; owner = gap.owner; size = gap.size; link = first }

  module _ {B' : List ℕ} (told : chunk_at B' heap.span.at gap.at ≡ new) (changes : ChangesOnly (heap.span.at + gap.at) 12 B B') where
    relinked : (a : Around heap B gap) → Spliced heap heap B B' a.before (new ∷ []) a.behind
    relinked a = swapped a new refl refl refl
        (changes_more changes (omega arith) (omega arith))
        told refl a.enough ((λ live. live), (λ none. none))

    -- it is the last gap of the prefix
    relinked_list : (before behind : List Chunk) (end : Option ℕ) → chunks_of heap B ≡ before ++ behind
        → last_of (gaps_among before) ≡ Some gap → LinkedTo heap.lowest before end → LinkedTo first behind None
        → LinkedTo heap.lowest (chunks_of heap B') None
    relinked_list before behind end is last linked later =
        let l = last_gap gap before last in
        let all : chunks_of heap B ≡ l.before ++ (gap ∷ (l.behind ++ behind)) = grind (arith, append_assoc) in
        let again : LinkedTo heap.lowest (l.before ++ (new ∷ l.behind)) first = grind (arith, linked_again) in
        grind (arith, relinked, append_assoc, linked_append, around_split heap B gap l.before (l.behind ++ behind) a.has all)

    pub link_changed : LinkChanged heap heap B B' (Some gap) first
    link_changed = record {
      chunks = (relinked a).has;
      block = grind (arith, blocks_append, relinked a);
      stands = λ other h. live_kept other a.before (gap ∷ []) (new ∷ []) a.behind a.is (relinked a).is
          (grind arith) h;
      linked = grind (arith, relinked_list);
      gaps = refl;
      count = omega (
        arith,
        edit_count (cut_at a) (relinked a),
        ap length (gap_first gap [] free),
        ap length (gap_first new [] free),
      );
    }
