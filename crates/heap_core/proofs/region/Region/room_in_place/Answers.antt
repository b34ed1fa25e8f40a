use Rattle.heap_core.proofs.Lemmas.{◌≡◌, ◌+◌, ◌-◌, ◌≤◌, ap, arith, least_room, room_in_place, store_of, chunks_behind, front_gap, place_in_chunk, around, end_below, choice, choice_no_gap, room_is}
use Rattle.heap_core.proofs.region.Region.room_in_place.Goals as goal
use Rattle.heap_core.proofs.region.Region.room_in_place.Goals.{After-least_room-least}

chosen : (c : After-least_room-least)
    → room_in_place (place_in_chunk c.args.self.now.header c.args.chunk) c.args.n (store_of c.args.self.now c.args.arena.now.bytes)
    ≡ choice (least_room c.args.self.now.header c.args.n) (c.args.chunk.len - c.args.self.now.header)
    (c.args.chunk.at + c.args.chunk.len) c.args.self.now.footprint (c.args.self.now.span.len - c.args.self.now.footprint)
    (front_gap (chunks_behind c.args.self.now c.args.arena.now.bytes (c.args.chunk.at + c.args.chunk.len)))
chosen c = grind (arith, room_is, around c.requires.chunks c.requires.live.stands)

high : (c : After-least_room-least)
    → c.args.chunk.at + c.args.chunk.len + front_gap
    (chunks_behind c.args.self.now c.args.arena.now.bytes (c.args.chunk.at + c.args.chunk.len)) ≤ c.args.self.now.footprint
high c = let a = around c.requires.chunks c.requires.live.stands in omega (arith, end_below a, ap front_gap a.behind_is)

pub overflow_sub-room : goal.overflow_sub-room
overflow_sub-room c = omega (arith, (around c.requires.chunks c.requires.live.stands).enough)

pub overflow_add-chunk : goal.overflow_add-chunk
overflow_add-chunk c = let heap = c.args.self.now in
    omega (arith, (around c.requires.chunks c.requires.live.stands).fits, heap.small)

pub returns-then-least-most : goal.returns-then-least-most
returns-then-least-most c = grind (arith, chosen (goal.at.returns-then-least-most c).After-least_room-least)

pub returns-else-least-most : goal.returns-else-least-most
returns-else-least-most c = grind (arith, chosen (goal.at.returns-else-least-most c).After-least_room-least)

pub overflow_add-most-2 : goal.overflow_add-most-2
overflow_add-most-2 c = grind (arith, high)

pub overflow_cast-least-then-least-most-2 : goal.overflow_cast-least-then-least-most-2
overflow_cast-least-then-least-most-2 c = grind arith

pub returns-then-least-most-2 : goal.returns-then-least-most-2
returns-then-least-most-2 c = grind (arith, chosen (goal.at.returns-then-least-most-2 c).After-least_room-least)

pub returns-else-least-most-2 : goal.returns-else-least-most-2
returns-else-least-most-2 c = grind (arith, choice_no_gap, chosen (goal.at.returns-else-least-most-2 c).After-least_room-least)
