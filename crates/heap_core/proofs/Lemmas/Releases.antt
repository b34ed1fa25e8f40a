-- A chunk that is freed, with the gaps beside it.
use Rattle.heap_core.proofs.Lemmas.Words.{◌≡◌, ◌≢◌, ℕ, ◌+◌, ◌-◌, ◌%◌, ◌≤◌, ◌<◌, inl, inr, List, [], ◌∷◌, ◌++◌, length, refl, sym, ap, ◌∙◌, subst, arith, Option, Some, None, cases_eq, eq-eqb, ne_eqb, append-nil, append_assoc, length-append, Chunk, Region, chunk_at, Tell, BeginsLive, AreJoined, chunks_of, chunks_behind, gaps_among, last_of, LinkedTo, Left, OnlyAt, EndsHole, gap_count, gap_below, gap_from, Cleared, free_from, front_gap, ReachesWithGaps}
use Rattle.heap_core.proofs.Lemmas.Lists.{count_some, LastGap, last_gap, no_last, below_is, leads_to_gap, only_append, edit_kept, edit_gone, edit_count}
use Rattle.heap_core.proofs.Lemmas.Gaps.{gaps_append, live_first}
use Rattle.heap_core.proofs.Lemmas.ChunkHeaders.{told_append, told_le, split_at, owner_cases, spliced, joined_swap, Around, around_split, ended, joined_behind}

joined_live : (header : ℕ) (l old new : List Chunk) → gaps_among l ≡ [] → AreJoined header (l ++ old) → AreJoined header new
    → AreJoined header (l ++ new)
joined_live header [] old new none was joined = joined
joined_live header (c ∷ l) old new none was joined = grind (arith, joined_live header l old new)

begins_live : (l new : List Chunk) → l ≢ [] → gaps_among l ≡ [] → BeginsLive (l ++ new)
begins_live [] new more none = absurd (more refl)
begins_live (c ∷ l) new more none = grind arith

-- chunks, without the gap at their front, if any
pub record Rest (header : ℕ) (B : List ℕ) (b x z : ℕ) (l : List Chunk) : Type 0 where
  pub post : List Chunk
  pub gone : List Chunk
  pub was : l ≡ gone ++ post
  pub only : (at : ℕ) → OnlyAt at gone
  pub count : length (gaps_among gone) ≡ gap_count (front_gap l)
  pub mid : Tell header B b x (x + front_gap l) gone
  pub told : Tell header B b (x + front_gap l) z post
  pub joined : AreJoined header post
  pub ends : EndsHole post
  pub whole : front_gap l % 4 ≡ 0

rest_from : (header : ℕ) (B : List ℕ) (b x z : ℕ) (l : List Chunk) → Tell header B b x z l → AreJoined header l → Rest header B b x z l
rest_from header B b x z [] t joined =
    record {
      post = [];
      gone = [];
      was = refl;
      only = λ at. tt;
      count = refl;
      mid = omega arith;
      told = omega arith;
      joined = tt;
      ends = inl refl;
      whole = refl;
    }
rest_from header B b x z (d ∷ l) t joined = elim (owner_cases d.owner) [
  | inl e ↦ record {
    post = l;
    gone = d ∷ [];
    was = refl;
    only = grind arith;
    count = grind arith;
    mid = grind arith;
    told = grind arith;
    joined = joined.2;
    ends = inr (joined.0 e);
    whole = grind arith;
  }
  | inr s ↦ record {
    post = d ∷ l;
    gone = [];
    was = refl;
    only = λ at. tt;
    count = grind arith;
    mid = grind arith;
    told = grind arith;
    joined = joined;
    ends = grind arith;
    whole = grind arith;
  }
]

module _ {heap : Region} {B : List ℕ} {chunk : Chunk} (a : Around heap B chunk) where
  record Front (from : ℕ) : Type 0 where
    pub pre : List Chunk
    pub gone : List Chunk
    pub was : a.before ≡ pre ++ gone
    pub only : OnlyAt chunk.at gone
    pub count : length (gaps_among gone) ≡ gap_count (chunk.at - from)
    pub told : Tell heap.header B heap.span.at 0 from pre
    pub mid : Tell heap.header B heap.span.at from chunk.at gone
    pub low : from ≤ chunk.at
    pub whole : (chunk.at - from) % 4 ≡ 0
    pub joined : (chunks : List Chunk) → AreJoined heap.header chunks → AreJoined heap.header (pre ++ chunks)
    pub grows : from < chunk.at → gap_from from (gaps_among (chunks_of heap B)) ≡ Some from

  front_all : ((chunks : List Chunk) → AreJoined heap.header chunks → AreJoined heap.header (a.before ++ chunks)) → Front chunk.at
  front_all joined = grind (arith, append-nil)

  module _ (gap : Chunk) (k : LastGap gap a.before) where
    all : chunks_of heap B ≡ k.before ++ (gap ∷ (k.behind ++ (chunk ∷ a.behind)))
    all = grind (arith, append_assoc)

    abbrev around_gap : (g : Around heap B gap) × (g.before ≡ k.before) × (g.behind ≡ k.behind ++ (chunk ∷ a.behind))
    around_gap = around_split heap B gap k.before (k.behind ++ (chunk ∷ a.behind)) a.has all

    joined_all : AreJoined heap.header (k.before ++ (gap ∷ (k.behind ++ (chunk ∷ a.behind))))
    joined_all = subst (AreJoined heap.header) all a.has.joined

    -- it ends where the chunk begins, or a live chunk is between
    gap_told : Tell heap.header B heap.span.at 0 gap.at k.before × (chunk_at B heap.span.at gap.at ≡ gap) × (12 ≤ gap.len)
        × Tell heap.header B heap.span.at (gap.at + gap.len) chunk.at k.behind
    gap_told = grind (arith, split_at)

    pub gap_ends_below : gap.at + gap.len ≤ chunk.at
    gap_ends_below = told_le heap.header B heap.span.at (gap.at + gap.len) chunk.at k.behind gap_told.3

    front_gap_there : LinkedTo heap.lowest (chunks_of heap B) None → gap.at + gap.len ≡ chunk.at → Front gap.at
    front_gap_there linked ends =
        let none = ended heap.header B heap.span.at (gap.at + gap.len) chunk.at k.behind gap_told.3 (omega (arith, ends)) in
        record {
          pre = k.before;
          gone = gap ∷ [];
          was = grind arith;
          only = grind arith;
          count = grind (arith, count_some, gap_told);
          told = gap_told.0;
          mid = (around_gap.0.here, around_gap.0.enough, ends);
          low = omega arith;
          whole = grind (arith, around_gap.0);
          joined = grind (arith, joined_swap, joined_all);
          grows = λ less. leads_to_gap around_gap.0 linked k.free;
        }

    front_gap_below : gap.at + gap.len ≢ chunk.at → Front chunk.at
    front_gap_below short = front_all (λ chunks joined.
        let rest = joined_behind heap.header k.before (gap ∷ (k.behind ++ (chunk ∷ a.behind))) joined_all in
        subst (AreJoined heap.header) (sym (ap (λ l. l ++ chunks) k.is ∙ append_assoc k.before (gap ∷ k.behind) chunks))
        (joined_swap heap.header k.before (gap ∷ (k.behind ++ (chunk ∷ a.behind))) (gap ∷ (k.behind ++ chunks)) (λ live. live) joined_all (
          (λ _. begins_live k.behind chunks (grind (arith, gap_told)) k.none),
          rest.1,
          joined_live heap.header k.behind (chunk ∷ a.behind) chunks k.none rest.2 joined,
        )))

  front_of : LinkedTo heap.lowest (chunks_of heap B) None → (below : Option Chunk) → last_of (gaps_among a.before) ≡ below
      → Front (free_from chunk.at below)
  front_of linked None e =
      front_all (λ chunks joined. joined_live heap.header a.before (chunk ∷ a.behind) chunks (no_last a.before e) a.joined joined)
  front_of linked (Some gap) e =
      let k = last_gap gap a.before e in
      elim (cases_eq (gap.at + gap.len) chunk.at) [
        | inl ends ↦ let is = eq-eqb (gap.at + gap.len) chunk.at ends in
            rw is (front_gap_there gap k linked ends)
        | inr short ↦ rw (ne_eqb (gap.at + gap.len) chunk.at short) (front_gap_below gap k short)
      ]

  -- the chunks after it, without an adjacent gap
  pub rest_of : Rest heap.header B heap.span.at (chunk.at + chunk.len) heap.footprint a.behind
  rest_of = grind (arith, rest_from)

  abbrev end : ℕ
  end = chunk.at + chunk.len + front_gap a.behind

  pub end_below : end ≤ heap.footprint
  end_below = grind (arith, told_le)

  -- how far it reaches
  reached : chunk.owner ≢ None → (from to : ℕ) → Front from → to ≡ end → ReachesWithGaps heap B chunk from to
  reached live from to f to_is =
      let r = rest_of in
      let behind : to - (chunk.at + chunk.len) ≡ front_gap a.behind = omega arith in
      record {
        cut = record {
          has = a.has;
          before = f.pre;
          gone = f.gone ++ (chunk ∷ r.gone);
          behind = r.post;
          is = grind (arith, r, append_assoc);
          front = f.told;
          mid = grind (arith, told_append);
          back = grind arith;
          only = only_append chunk.at f.gone (chunk ∷ r.gone) f.only ((λ _. refl), r.only chunk.at);
          low = f.low;
          high = grind arith;
        };
        ends = r.ends;
        count = grind (arith, owner_cases, gaps_append, f, r, live_first, length-append);
        long = omega (arith, a.enough);
        high = omega (arith, to_is);
        most = omega (arith, to_is, end_below);
        whole = grind arith;
        joined = f.joined;
        joined_behind = r.joined;
        grows = f.grows;
      }

  pub reach : chunk.owner ≢ None → LinkedTo heap.lowest (chunks_of heap B) None → {below : Option Chunk} {from to : ℕ}
      → below ≡ gap_below chunk.at (gaps_among (chunks_of heap B)) → from ≡ free_from chunk.at below
      → to ≡ chunk.at + chunk.len + front_gap (chunks_behind heap B (chunk.at + chunk.len)) → ReachesWithGaps heap B chunk from to
  reach live linked {below} {from} {to} is begins ends =
      reached live from to (subst Front (sym begins) (front_of linked below (sym (is ∙ below_is a linked))))
      (ends ∙ ap (λ l. chunk.at + chunk.len + front_gap l) a.behind_is)

-- it becomes one gap with its neighbours, or part of the top gap
pub cleared : {heap new : Region} {B B' : List ℕ} {chunk : Chunk} {from end : ℕ} {first link : Option ℕ}
    (r : ReachesWithGaps heap B chunk from end) → Left heap new B B' from end first link → new.span ≡ heap.span → new.header ≡ heap.header
    → heap.gaps ≡ length (gaps_among (chunks_of heap B)) → Cleared heap new B B' chunk from end first link
cleared {heap} {new} {B} {B'} {chunk} {from} {end} r left span header count =
    let behind = left.behind B r.cut.behind r.cut.back r.ends r.joined_behind in
    let s = spliced heap new B B' from left.to r.cut.before left.mid r.cut.behind span header r.cut.has.within left.changes r.cut.front
    left.told behind.0 (r.joined (left.mid ++ r.cut.behind) behind.1) in
    record {
      cut = r.cut;
      mid = left.mid;
      spliced = s;
      linked = left.linked;
      chunks = s.has;
      count = omega (arith, left.count, edit_count r.cut s, r.count);
      block = edit_gone r.cut s (left.free B');
      others = edit_kept r.cut s;
    }
