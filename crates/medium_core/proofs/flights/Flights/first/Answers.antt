use Rattle.std.proofs.Common.{◌≡◌, length, get_or, sym, ap, ◌∙◌, arith, Some}
use Rattle.std.proofs.lemmas.Grind.{common_steps}
use Rattle.std.specs.VecDeque.{deque_len}
use Rattle.medium_core.specs.Code.Queue.{Queue}
use Rattle.medium_core.specs.Flights.{first_flight}
use Rattle.medium_core.proofs.Merging.{queue_first_flight, with_some}
use Rattle.medium_core.proofs.flights.Flights.first.Goals as goal

pub returns-clause-some : goal.returns-clause-some
returns-clause-some c =
    let items = c.self.inside.queue.items in
    let heap = c.self.inside.overtaking.flights in
    let count : deque_len c.self.inside.queue ≡ length items = grind (arith, common_steps) in
    with_some c.front.result (λ flight. flight.now ≡ get_or items 0 flight.now)
    (λ flight. first_flight c.args.self.now.flights ≡ Some flight.now) c.front.ensures.lookup
    (λ flight is e.
    let long = c.front.ensures.variant.0 is in
    sym (ap (λ (q : Queue). first_flight q.flights) c.self.view_is)
    ∙ queue_first_flight flight.now heap items (omega (arith, long, count)) e c.self.invariant.has_room.heap_order c.self.invariant.first)
