use Rattle.heap_core.proofs.Lemmas.{◌≡◌, ℕ, ◌≤◌, ◌∙◌, arith, without_block, heap_of, IsLaidOut, chunks_of, count, elsewhere, live_without_place, count_filter, placed_less, stored}
use Rattle.heap_core.proofs.heap.Heap.free.Goals as goal

pub set_aside-requires-clause-live : goal.set_aside-requires-clause-live
set_aside-requires-clause-live c = grind arith

pub returns : goal.returns
unfolding chunks_of
returns c = let heap = c.self.inside.region in let B = c.args.arena.now.bytes in
    let laid : IsLaidOut heap B = grind arith in
    let number = c.number_of-name.result in
    let mid = heap_of c.set_aside.new.self c.set_aside.new.arena.bytes in let named : (name : ℕ) → count name mid.blocks ≤ 1 =
    grind (arith, count_filter, elsewhere) in
    let is : mid ≡ without_block number (heap_of heap B) =
    c.set_aside.ensures.aside.block ∙ live_without_place
    (stored laid) c.number_of-name.ensures.within c.live_chunk-chunk.ensures.owned in
    grind (arith, placed_less heap.places (heap_of heap B) mid number c.number_of-name.ensures.within is laid.places)
