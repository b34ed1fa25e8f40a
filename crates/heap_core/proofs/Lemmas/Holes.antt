-- A live chunk that is put into a hole, and the holes.
use Rattle.heap_core.proofs.Lemmas.Words.{◌≡◌, ◌≢◌, ℕ, ◌+◌, ◌-◌, ◌≤◌, ◌<◌, inl, inr, List, [], ◌∷◌, ◌++◌, length, refl, sym, ◌∙◌, subst, arith, Option, IfSome, filter, append-nil, ChangesOnly, Chunk, Place, Region, Block, block_at, with_block, least_room, room_in_place, least_len, chunk_at, Cut, EndsHole, AreJoined, Fits, Leaves, Left, Laid, Room, chunks_of, HasChunks, store_of, LinkedTo, gaps_among, LiveIn, GapsLinked, gap_count, gap_below, gap_from, Relinked, chunks_behind, GapAt, Owned, front_gap, place_in_chunk, at_place, bytes_in_chunk, IsWholeRoom, Some, None}
use Rattle.heap_core.proofs.Lemmas.Gaps.{room_is, Taken, taken, front_gap_whole, none_in_front, lengths, needed, live_first}
use Rattle.heap_core.proofs.Lemmas.ChunkHeaders.{store_with, elsewhere, Around, around, blocks_append, changes_more, changes_then, spliced, joined_swap, joined_behind, told_le, framed}
use Rattle.heap_core.proofs.Lemmas.Lists.{IsGapOf, cut_left, edit_kept, edit_put, edit_count, edit_last, edit_list}
use Rattle.heap_core.proofs.Lemmas.Releases.{rest_of, end_below}

-- a chunk that fits has its least length
pub fits_least : {heap : Region} {live : Chunk} {end : ℕ} → Fits heap live end → least_len heap.header live ≤ live.len
fits_least {heap} {live} {end} fits = grind (arith, lengths)

-- between the others, before the rest of the hole
pub laid_before : {heap new : Region} {B A A' B' : List ℕ} {live : Chunk} {end : ℕ} {first link : Option ℕ}
    (cut : Cut heap B live.at end live.at) → EndsHole cut.behind → Fits heap live end
    → Left heap new A A' (live.at + live.len) end first link → new.span ≡ heap.span → new.header ≡ heap.header
    → ChangesOnly (heap.span.at + live.at) live.len B A → chunk_at B' heap.span.at live.at ≡ live
    → ChangesOnly (heap.span.at + live.at) 8 A' B' → Laid heap new B A B' live cut.before cut.behind first link
laid_before {heap} {new} {B} {A} {A'} {B'} {live} {end} {first} {link} cut ends fits left span header changed told wrote =
    let b = heap.span.at in let next = live.at + live.len in let h = heap.header in
    let room = fits_least fits in
    let was = subst (AreJoined h) cut.is cut.has.joined in
    let is_live : live.owner ≢ None = grind arith in
    let behind = left.behind B cut.behind cut.back ends
    (joined_behind h cut.gone cut.behind (joined_behind h cut.before (cut.gone ++ cut.behind) was)) in
    let far = told_le h A' b next left.to left.mid left.told in
    record {
      mid = live ∷ left.mid;
      spliced = spliced heap new B B' live.at left.to cut.before (live ∷ left.mid) cut.behind span header cut.has.within
          (grind (arith, changes_then, changes_more))
          cut.front
          (told, room, (framed h A' B' b (b + live.at) 8 wrote next left.to left.mid (inr (omega (arith, room))) left.told).0) behind.0
          (joined_swap h cut.before (cut.gone ++ cut.behind) (live ∷ (left.mid ++ cut.behind)) (λ _. is_live) was
          ((λ none. absurd (is_live none)), fits.whole, behind.1));
      linked = grind arith;
      count = grind arith;
      blocks = grind arith;
    }

-- the block was laid there
pub record Put (heap new : Region) (B B1 B2 : List ℕ) (target : Place) (name n taken : ℕ) (olds : List Block) (below : Option Chunk)
    (first : Option ℕ) : Type 0 where
  pub chunks : HasChunks new B2
  pub last : IfSome below (IsGapOf (chunks_of new B2))
  pub count : new.gaps ≡ length (gaps_among (chunks_of new B2)) + taken
  pub linked : (after : Region) (B3 : List ℕ) → new.lowest ≡ heap.lowest → Relinked new after B2 B3 below first
      → LinkedTo after.lowest (chunks_of after B3) None
  pub block : (ws : List ℕ)
      → bytes_in_chunk heap.header B1 heap.span.at
      (record { at = target.at; len = heap.header + target.room; owner = Some name; size = n; link = None }) ≡ ws
      → store_of new B2 ≡ with_block (block_at target name ws) (store_with heap olds)
  pub kept : (other : Chunk) → LiveIn other (chunks_of heap B) → other.at ≢ target.at → LiveIn other (chunks_of new B2)

module _ {heap : Region} {B : List ℕ} {target : Place} {end n taken : ℕ} {olds : List Block} (r : Room heap B target end n taken olds)
    (name : ℕ) where
  abbrev live : Chunk
  live = record { at = target.at; len = heap.header + target.room; owner = Some name; size = n; link = None }

  pub fits : name < 272 → Fits heap live end
  fits small = grind arith

  -- its bytes are written within it
  pub changes_inside : {B1 : List ℕ} → ChangesOnly (heap.span.at + target.at + heap.header) n B B1
      → ChangesOnly (heap.span.at + target.at) live.len B B1
  changes_inside {B1} changes = grind arith

  pub put : {B1 : List ℕ} → GapsLinked heap B → {new : Region} {B2 : List ℕ} {last : Option Chunk} {first link : Option ℕ}
      → Laid heap new B B1 B2 live r.cut.before r.cut.behind first link
      → last ≡ gap_below target.at (gaps_among (chunks_of heap B)) → link ≡ gap_from end (gaps_among (chunks_of heap B))
      → Put heap new B B1 B2 target name n taken olds last first
  put {B1} g l at_last at_link = record {
    chunks = l.spliced.has;
    last = edit_last r.cut l.spliced g.linked at_last;
    count = omega (arith, edit_count r.cut l.spliced, r.count);
    linked = edit_list r.cut l.spliced g.linked l.linked at_link at_last;
    block = λ ws fresh. (
        grind (arith, edit_put r.cut l.spliced (block_at target name ws) olds refl));
    kept = edit_kept r.cut l.spliced;
  }

module _ {heap : Region} {B : List ℕ} (has : HasChunks heap B) {target : Place} {n : ℕ} (whole : IsWholeRoom heap.header target.room)
    (enough : n ≤ target.room) where
  pub free_top : target.at ≡ heap.footprint → target.at + (heap.header + target.room) ≤ heap.span.len
      → Room heap B target target.at n (gap_count (target.at - target.at)) (store_of heap B).blocks
  free_top at fits = record {
    cut = record {
      has = has;
      before = chunks_of heap B;
      gone = [];
      behind = [];
      is = sym (append-nil (chunks_of heap B));
      front = grind arith;
      mid = refl;
      back = at;
      only = tt;
      low = omega arith;
      high = inr refl;
    };
    ends = inl refl;
    count = grind arith;
    inside = fits;
    rest = inl at;
    most = omega arith;
    whole = whole;
    enough = enough;
    blocks = grind (arith, append-nil);
  }

  pub free_gap : (g : GapAt heap.header target.at (heap.header + target.room) (chunks_of heap B))
      → Room heap B target (target.at + g.gap.len) n (gap_count (target.at + g.gap.len - target.at)) (store_of heap B).blocks
  free_gap g =
      let a = around has g.stands in
      record {
        cut = record {
          has = has;
          before = a.before;
          gone = g.gap ∷ [];
          behind = a.behind;
          is = a.is;
          front = grind arith;
          mid = grind arith;
          back = grind arith;
          only = grind arith;
          low = omega arith;
          high = inl (omega arith);
        };
        ends = inr (a.rest.0 g.free);
        count = grind arith;
        inside = grind arith;
        rest = grind arith;
        most = omega (arith, g.at);
        whole = whole;
        enough = enough;
        blocks = grind (arith, blocks_append, none_in_front);
      }

module _ {heap : Region} {B : List ℕ} (has : HasChunks heap B) {chunk : Chunk} {name : ℕ} (o : Owned name chunk (chunks_of heap B)) where
  pub own : Around heap B chunk
  own = around has o.stands

  pub owns : chunk.owner ≢ None
  owns none = grind arith

  module _ {gap : ℕ} (gap_is : gap ≡ front_gap (chunks_behind heap B (chunk.at + chunk.len))) where
    abbrev end : ℕ
    end = chunk.at + chunk.len + gap

    gap_same : gap ≡ front_gap own.behind
    gap_same = grind arith

    pub own_end : end ≤ heap.footprint
    own_end = omega (arith, gap_same, end_below own)

    module _ {n room : ℕ} (some : 1 ≤ n) (chosen : room_in_place (place_in_chunk heap.header chunk) n (store_of heap B) ≡ Some room) where
      abbrev least : ℕ
      least = least_room heap.header n

      known : Taken heap.header least (chunk.len - heap.header) (chunk.at + chunk.len) heap.footprint (heap.span.len - heap.footprint)
          (front_gap own.behind) room
      known =
          let k = lengths heap in let whole = own.rest.1 in
          taken heap.header least (chunk.len - heap.header) (chunk.at + chunk.len) heap.footprint (heap.span.len - heap.footprint)
          (front_gap own.behind) room
          k.most (needed heap n some).whole (omega (arith, whole.1, k.whole, k.room))
          (front_gap_whole heap.header own.behind own.rest.2)
          (sym (room_is own n owns) ∙ chosen)

      own_rest : Leaves heap (chunk.at + (heap.header + room)) end
      own_rest = grind (arith, own_end, known, own)

      own_inside : chunk.at + (heap.header + room) ≤ heap.span.len
      own_inside = grind (arith, own_end, known, own)

      pub own_room : Room heap B (at_place chunk.at room) end n (gap_count gap) (filter (elsewhere chunk.at) (store_of heap B).blocks)
      own_room =
          let r = rest_of own in
          let cut : Cut heap B chunk.at end chunk.at = record {
            has = has;
            before = own.before;
            gone = chunk ∷ r.gone;
            behind = r.post;
            is = grind arith;
            front = own.front;
            mid = grind arith;
            back = grind arith;
            only = ((λ _. refl), r.only chunk.at);
            low = omega arith;
            high = inl (omega (arith, own.enough));
          } in
          record {
            cut = cut;
            ends = r.ends;
            count = grind (arith, live_first, gap_same);
            inside = own_inside;
            rest = own_rest;
            most = own_end;
            whole = known.whole;
            enough = omega (arith, known.enough);
            blocks = cut_left cut;
          }
