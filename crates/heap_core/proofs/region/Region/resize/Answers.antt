use Rattle.heap_core.proofs.Lemmas.{◌+◌, refl, arith, filter, chunks_of, store_of, gap_count, at_place, elsewhere, KeepsToSpan-then, Room, Put, fits, changes_inside, put, own, own_end, own_room, link_small, gaps_few, kept_then, changes_more}
use Rattle.heap_core.proofs.region.Region.resize.Goals as goal
use Rattle.heap_core.proofs.region.Region.resize.Goals.{After-gap_after-gap, After-lay-first}

-- the bytes of the resized block
room : (c : After-gap_after-gap)
    → Room c.args.self.now c.args.arena.now.bytes (at_place c.args.chunk.at c.args.room)
    (c.args.chunk.at + c.args.chunk.len + c.gap_after-gap.result) c.args.n (gap_count c.gap_after-gap.result)
    (filter (elsewhere c.args.chunk.at) (store_of c.args.self.now c.args.arena.now.bytes).blocks)
room c = own_room c.requires.divided.chunks c.requires.owned c.gap_after-gap.ensures c.requires.some c.requires.room

laid : (c : After-lay-first)
    → Put c.args.self.now c.lay-first.new.self c.args.arena.now.bytes c.clear.new.arena.bytes c.lay-first.new.arena.bytes
    (at_place c.args.chunk.at c.args.room) c.args.name c.args.n (gap_count c.gap_after-gap.result)
    (filter (elsewhere c.args.chunk.at) (store_of c.args.self.now c.args.arena.now.bytes).blocks)
    c.gaps_from-beside.result.below c.lay-first.result
laid c =
    let r = own_room c.requires.divided.chunks c.requires.owned c.gap_after-gap.ensures c.requires.some c.requires.room in
    put r c.args.name c.requires.divided.gaps
    (c.lay-first.ensures.laid c.args.arena.now.bytes r.cut r.ends (changes_inside r c.args.name c.clear.ensures.others))
    c.gaps_from-beside.ensures.below c.link_after-link.ensures

pub overflow_add-self : goal.overflow_add-self
overflow_add-self c =
    omega (arith, (own_room c.requires.divided.chunks c.requires.owned refl c.requires.some c.requires.room).inside)

pub refill-requires-clause-fits : goal.refill-requires-clause-fits
refill-requires-clause-fits c =
    omega (arith, (own_room c.requires.divided.chunks c.requires.owned refl c.requires.some c.requires.room).enough)

pub returns-then-self-room : goal.returns-then-self-room
unfolding chunks_of
returns-then-self-room c = grind arith

pub overflow_add-end : goal.overflow_add-end
overflow_add-end c = let heap = c.args.self.now in
    omega (arith, (own c.requires.divided.chunks c.requires.owned).fits, heap.small)

pub overflow_add-end-2 : goal.overflow_add-end-2
overflow_add-end-2 c = let heap = c.args.self.now in
    omega (arith, own_end c.requires.divided.chunks c.requires.owned c.gap_after-gap.ensures, heap.small)

pub overflow_add-live : goal.overflow_add-live
overflow_add-live c = omega (arith, (room (goal.at.overflow_add-live c).After-gap_after-gap).inside)

pub clear-requires-clause-inside : goal.clear-requires-clause-inside
clear-requires-clause-inside c = let r = room (goal.at.clear-requires-clause-inside c).After-gap_after-gap in
    omega (arith, r.enough)

pub clear-requires-clause-before : goal.clear-requires-clause-before
clear-requires-clause-before c =
    grind (arith, own c.requires.divided.chunks c.requires.owned)

pub lay-first-requires-clause-fits : goal.lay-first-requires-clause-fits
lay-first-requires-clause-fits c =
    fits (room (goal.at.lay-first-requires-clause-fits c).After-gap_after-gap) c.args.name c.requires.name

pub lay-first-requires-clause-link : goal.lay-first-requires-clause-link
lay-first-requires-clause-link c = link_small c.requires.divided.chunks _ c.link_after-link.ensures

pub lay-first-requires-clause-few : goal.lay-first-requires-clause-few
lay-first-requires-clause-few c = grind (arith, gaps_few)

pub link_below-requires-clause-chunks : goal.link_below-requires-clause-chunks
link_below-requires-clause-chunks c = (laid (goal.at.link_below-requires-clause-chunks c).After-lay-first).chunks

pub link_below-requires-clause-before : goal.link_below-requires-clause-before
link_below-requires-clause-before c = (laid (goal.at.link_below-requires-clause-before c).After-lay-first).last

pub overflow_sub-self : goal.overflow_sub-self
overflow_sub-self c = omega (arith, (laid (goal.at.overflow_sub-self c).After-lay-first).count, c.gap_count.ensures)

pub returns : goal.returns
unfolding chunks_of
returns c = let A = c.args.arena.now in let mid = c.lay-first.new.self in let new = c.link_below.new.self in
    let last = c.link_below.new.arena in
    let r = room (goal.at.returns c).After-gap_after-gap in let l = laid (goal.at.returns c).After-lay-first in let f =
    kept_then c.lay-first.ensures.kept c.link_below.ensures.kept in
    record {
      chunks = grind arith;
      gaps = grind arith;
      block = grind arith;
      others = λ other h far. c.link_below.ensures.relinked.stands other (l.kept other h far);
      kept = grind arith;
      rest = grind (arith, KeepsToSpan-then, changes_more);
    }
