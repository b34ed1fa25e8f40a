use Rattle.heap_core.proofs.Lemmas.{Resizing, low_moved, refl, moved_elsewhere, elsewhere, arith, rules, ◌≡◌, ℕ, ◌≤◌, List, sym, ap, ◌∙◌, subst, Option, option_map, resized, Chunk, Place, Region, Block, HeapStore, block_at, find_block, with_block, without_block, place, reallocated, heap_of, IsLaidOut, chunks_of, store_of, ArePlaced, at_place, bytes_in_chunk, block_in_chunk, without_place, Some, None, count, without_place_is, plain, none_unnamed, put_named, joined_laid, in_place, moved_nowhere, named_after, placed_there, placed_moved, stored}
use Rattle.heap_core.proofs.heap.Heap.realloc.Goals as goal
use Rattle.heap_core.proofs.heap.Heap.realloc.Goals.{After-live_chunk-chunk}

module _ (c : After-live_chunk-chunk) where
  abbrev heap : Region
  heap = c.join.new.self

  abbrev B : List ℕ
  B = c.join.new.arena.bytes

  abbrev store : HeapStore
  store = store_of heap B

  abbrev chunk : Chunk
  chunk = c.live_chunk-chunk.result

  abbrev after : HeapStore → Option HeapStore
  after h = reallocated c.args.key.0.0 c.args.key.1 c.args.n h

  all : heap_of heap B ≡ store
  all = plain heap B c.join.ensures.joins.freed c.join.ensures.none

  joined : IsLaidOut heap B
  joined = joined_laid (grind arith) c.join.ensures.joins

  found : find_block c.number_of-name.result store ≡ Some (block_in_chunk heap.header B heap.span.at c.number_of-name.result chunk)
  found = ap (find_block c.number_of-name.result) (sym all) ∙ c.live_chunk-chunk.ensures.block

  left : without_place chunk.at store ≡ without_block c.number_of-name.result store
  left = without_place_is
      (stored joined) c.number_of-name.ensures.within c.live_chunk-chunk.ensures.owned

  resizing : Resizing heap B store chunk c.args.key.0.0 c.args.key.1 c.number_of-name.result c.args.n
  resizing = record { left = left; same = c.number_of-name.ensures.number; found = found }

  named : (new : HeapStore) → after store ≡ Some new → (other : ℕ) → count other new.blocks ≤ 1
  named new is = named_after resizing (λ other. subst (λ (k : HeapStore). count other k.blocks ≤ 1) all (joined.named other)) new is

  -- the same result as before the heap was joined
  told : (o : Option HeapStore) → after store ≡ o → after (heap_of c.args.self.now c.args.arena.now.bytes) ≡ o
  told o is =
      subst (λ (r : Region). after (heap_of r c.args.arena.now.bytes) ≡ o) c.self.view_is
      (ap after (sym c.join.ensures.joins.blocks ∙ all) ∙ is)

pub put-requires-clause-at : goal.put-requires-clause-at
put-requires-clause-at c =
    low_moved c.join.ensures.joins.chunks c.requires.some_bytes
    (place c.args.n (store_of c.join.new.self c.join.new.arena.bytes)) c.in_ok-at.at refl (sym c.in_ok-at.ensures.at)

pub returns-in_default : goal.returns-in_default
unfolding chunks_of
returns-in_default c = let k = (goal.at.returns-in_default c).After-live_chunk-chunk in
    let new = heap_of c.relocate.new.self c.relocate.new.arena.bytes in
    let m = c.in_ok-at.ensures in let heap = c.join.new.self in let B = c.join.new.arena.bytes in let store = store_of heap B in
    let bytes = resized c.args.n (bytes_in_chunk heap.header B heap.span.at c.live_chunk-chunk.result) in let name =
    c.number_of-name.result in
    let is = moved_elsewhere (resizing k) new (sym c.room_in_place.ensures ∙ c.in_default.is) m.block in let some = told k (Some new) is in
    let named' = named k new is in
    let places = (placed_moved heap.places store new (place c.args.n store) c.in_ok-at.at name bytes c.number_of-name.ensures.within
    (sym m.at) (ap (λ rest. option_map (λ (target : Place). with_block (block_at target name bytes) rest) (place c.args.n store))
    (sym (left k)) ∙ m.block)
    (stored (joined k)).places) in
    record {
      refused = grind arith;
      unchanged = search rules;
      block = some;
      laid_out = grind arith;
      rest = search rules;
    }

pub returns : goal.returns
returns c =
    let k = (goal.at.returns c).After-live_chunk-chunk in let heap = c.join.new.self in let B = c.join.new.arena.bytes in
    let chunk = c.live_chunk-chunk.result in let new = heap_of c.resize.new.self c.resize.new.arena.bytes in
    let bytes = resized c.args.n (bytes_in_chunk heap.header B heap.span.at chunk) in let name = c.number_of-name.result in
    let j = c.join.ensures in let store = store_of heap B in
    let put = put_named j.joins.chunks j.joins.freed j.none c.resize.ensures.kept (block_at (at_place chunk.at c.in-Some.room) name bytes)
    (without_place chunk.at store) c.resize.ensures.block
    (none_unnamed (elsewhere chunk.at) store.blocks (j.joins.freed.all ∙ j.none)) c.number_of-name.ensures.within in
    let done = in_place (resizing k) c.in-Some.room new (sym c.in-Some.ensures) put.is in
    let some = told k (Some new) done in
    record {
      refused = grind arith;
      unchanged = search rules;
      block = some;
      laid_out = record {
        chunks = c.resize.ensures.chunks;
        named = named k new done;
        places =
            subst (λ places. ArePlaced places new) (sym c.resize.ensures.kept.places)
            (placed_there heap.places store new (at_place chunk.at c.in-Some.room) name bytes
            (ap (option_map (λ (other : Block). other.at)) (found k))
            (put.is ∙ ap (with_block (block_at (at_place chunk.at c.in-Some.room) name bytes)) (left k))
            (stored (joined k)).places);
        gaps = c.resize.ensures.gaps;
        freed = put.freed;
      };
      rest = search rules;
    }

pub returns-in_err-at-clause-refused : goal.returns-in_err-at-clause-refused
returns-in_err-at-clause-refused c = let k = (goal.at.returns-in_err-at-clause-refused c).After-live_chunk-chunk in
    grind (
      arith,
      c.from_residual.ensures,
      told k None (moved_nowhere (resizing k)
          (sym c.room_in_place.ensures ∙ c.in_default.is) c.in_err-at.ensures.refused),
    )
