use Rattle.std.proofs.Common.{ℕ, List, ap, ◌∙◌, arith}
use Rattle.arrayvec.specs.ArrayVec.{ArrayVec}
use Rattle.medium_core.specs.declared.flight.Flight.{Flight}
use Rattle.medium_core.specs.Code.Heap.{Pile}
use Rattle.medium_core.specs.Code.Queue.{Queue}
use Rattle.medium_core.specs.Flights.{with_flight, with_flights}
use Rattle.medium_core.proofs.Adding.{free_of, room_at_end}
use Rattle.medium_core.proofs.Merging.{in_turn_at_end, queue_added}
use Rattle.medium_core.proofs.flights.Flights.add_frame.Goals as goal

abbrev flight_of : (due from position to : ℕ) → ArrayVec ℕ → Flight
flight_of due from position to bytes = record { due = due; from = from; position = position; to = to; bytes = bytes }

abbrev queue_with : Flight → Queue → Queue
queue_with flight queue = record { room = queue.room; flights = with_flight flight queue.flights }

pub invariant_of-self : goal.invariant_of-self
invariant_of-self c =
    let heap : Pile = c.self.inside.overtaking in
    let flight : Flight = flight_of c.args.due c.args.from c.args.position c.args.to c.copied-bytes.result in
    record {
      has_room =
          room_at_end _ _ heap c.self.inside.queue.items flight c.self.invariant.has_room
          (free_of _ _ _ c.args.self.now c.self.view_is c.requires) (omega (arith, c.last_arrival.ensures, c.if-last_arrival-due.true)) _
          c.push_back_reserved.ensures.capacity _ c.push_back_reserved.ensures.items;
      first =
          rw c.push_back_reserved.ensures.items
          (in_turn_at_end flight heap.flights c.self.inside.queue.items c.self.invariant.first);
    }

pub returns-then-last_arrival-due : goal.returns-then-last_arrival-due
returns-then-last_arrival-due c =
    let heap : List Flight = c.self.inside.overtaking.flights in
    let flight : Flight = flight_of c.args.due c.args.from c.args.position c.args.to c.copied-bytes.result in
    ap (λ (l : List Flight). record { room = c.self.inside.room; flights = l })
    (ap (with_flights heap) c.push_back_reserved.ensures.items
    ∙ queue_added flight heap c.self.inside.queue.items c.self.invariant.has_room.order
    (omega (arith, c.last_arrival.ensures, c.if-last_arrival-due.true)) c.self.invariant.has_room.ahead)
    ∙ (ap (queue_with flight) c.self.view_is
    ∙ ap (λ (bytes : ArrayVec ℕ). queue_with (flight_of c.args.due c.args.from c.args.position c.args.to bytes) c.args.self.now) c.copied-bytes.ensures)
