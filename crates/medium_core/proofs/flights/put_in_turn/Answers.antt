use Rattle.std.proofs.Common.{sym}
use Rattle.medium_core.proofs.Merging.{room_pulled}
use Rattle.medium_core.proofs.flights.put_in_turn.Goals as goal

pub returns-then-overtakes-clause-room : goal.returns-then-overtakes-clause-room
returns-then-overtakes-clause-room c room =
    let k = c.let_overtake.ensures in
    room_pulled room _ _ c.args.heap.now c.let_overtake.new.heap c.args.queue.now.items _ (sym c.if-overtakes.ensures) k.queue k.heap k.room k.capacity
