use Rattle.std.proofs.Common.{List, length, refl, ap, sym, subst, ◌∙◌, arith}
use Rattle.medium_core.specs.declared.flight.Flight.{Flight}
use Rattle.medium_core.specs.Code.Heap.{Pile}
use Rattle.medium_core.specs.Code.Queue.{InOrder, Queue}
use Rattle.medium_core.specs.Flights.{with_flight, with_flights}
use Rattle.medium_core.proofs.Adding.{free_of, room_at_end, room_in_heap, room_in_queue}
use Rattle.medium_core.proofs.Merging.{heap_added, in_turn_at_end, queue_added}
use Rattle.medium_core.proofs.Order.{order_with, order_with_all}
use Rattle.medium_core.proofs.Room.{length_with}
use Rattle.medium_core.proofs.flights.Flights.add.Goals as goal

pub invariant_of-self : goal.invariant_of-self
invariant_of-self c =
    let heap : Pile = c.self.inside.overtaking in
    record {
      has_room =
          room_at_end _ _ heap c.self.inside.queue.items c.args.flight c.self.invariant.has_room
          (free_of _ _ _ c.args.self.now c.self.view_is c.requires) (omega (arith, c.last_arrival.ensures, c.if-last_arrival-flight.true)) _
          c.push_back_reserved.ensures.capacity _ c.push_back_reserved.ensures.items;
      first =
          rw c.push_back_reserved.ensures.items
          (in_turn_at_end c.args.flight heap.flights c.self.inside.queue.items c.self.invariant.first);
    }

pub put_in_turn-requires-clause-order : goal.put_in_turn-requires-clause-order
put_in_turn-requires-clause-order c =
    let heap : List Flight = c.self.inside.overtaking.flights in
    subst InOrder (sym (ap (λ (p : Pile). p.flights) c.add.ensures)) (order_with c.args.flight heap c.self.invariant.has_room.heap_order)

pub put_in_turn-requires-clause-room : goal.put_in_turn-requires-clause-room
put_in_turn-requires-clause-room c =
    let heap : List Flight = c.self.inside.overtaking.flights in
    let free = free_of _ heap c.self.inside.queue.items c.args.self.now c.self.view_is c.requires in
    omega (arith, free, c.self.invariant.has_room.taken, ap (λ (p : Pile). length p.flights) c.add.ensures, length_with c.args.flight heap)

pub invariant_of-self-then-number-lt18446744073709551615 : goal.invariant_of-self-then-number-lt18446744073709551615
invariant_of-self-then-number-lt18446744073709551615 c =
    record {
      has_room =
          c.put_in_turn.ensures.room _
          (room_in_heap _ _ c.self.inside.overtaking c.self.inside.queue.items c.args.flight c.self.invariant.has_room
          (free_of _ _ _ c.args.self.now c.self.view_is c.requires) (omega (arith, c.last_arrival.ensures, c.if-last_arrival-flight.false)) c.add.new.self
          (ap (λ (p : Pile). p.flights) c.add.ensures) (ap (λ (p : Pile). p.room) c.add.ensures));
      first = c.put_in_turn.ensures.in_turn;
    }

pub insert_in_order-requires-clause-order : goal.insert_in_order-requires-clause-order
insert_in_order-requires-clause-order c =
    subst InOrder (sym c.empty_heap.ensures.items) (order_with_all c.self.inside.overtaking.flights c.self.inside.queue.items c.self.invariant.has_room.order)

pub invariant_of-self-else-number-lt18446744073709551615 : goal.invariant_of-self-else-number-lt18446744073709551615
invariant_of-self-else-number-lt18446744073709551615 c =
    record {
      has_room =
          room_in_queue _ _ c.self.inside.overtaking c.self.inside.queue.items c.args.flight c.self.invariant.has_room
          (free_of _ _ _ c.args.self.now c.self.view_is c.requires) c.empty_heap.new.heap c.empty_heap.ensures.empty c.empty_heap.ensures.room _
          (omega (arith, c.empty_heap.ensures.capacity, c.insert_in_order.ensures.capacity)) _
          (c.insert_in_order.ensures.items ∙ ap (with_flight c.args.flight) c.empty_heap.ensures.items);
      first = rw c.empty_heap.ensures.empty refl;
    }

pub returns-then-last_arrival-flight : goal.returns-then-last_arrival-flight
returns-then-last_arrival-flight c =
    let heap : List Flight = c.self.inside.overtaking.flights in
    ap (λ (l : List Flight). record { room = c.self.inside.room; flights = l })
    (ap (with_flights heap) c.push_back_reserved.ensures.items
    ∙ queue_added c.args.flight heap c.self.inside.queue.items c.self.invariant.has_room.order
    (omega (arith, c.last_arrival.ensures, c.if-last_arrival-flight.true)) c.self.invariant.has_room.ahead)
    ∙ ap (λ (q : Queue). record { room = q.room; flights = with_flight c.args.flight q.flights }) c.self.view_is

pub returns-then-number-lt18446744073709551615 : goal.returns-then-number-lt18446744073709551615
returns-then-number-lt18446744073709551615 c =
    let queue : List Flight = c.self.inside.queue.items in
    ap (λ (l : List Flight). record { room = c.self.inside.room; flights = l })
    (c.put_in_turn.ensures.same
    ∙ (ap (λ (p : Pile). with_flights p.flights queue) c.add.ensures
    ∙ heap_added c.args.flight c.self.inside.overtaking.flights queue c.self.invariant.has_room.heap_order))
    ∙ ap (λ (q : Queue). record { room = q.room; flights = with_flight c.args.flight q.flights }) c.self.view_is
