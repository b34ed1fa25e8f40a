use Rattle.std.proofs.Common.{length, List, ap, sym, subst, ◌∙◌, arith}
use Rattle.medium_core.specs.declared.flight.Flight.{Flight}
use Rattle.medium_core.specs.Code.Queue.{InOrder}
use Rattle.medium_core.specs.Flights.{with_flights}
use Rattle.medium_core.proofs.Order.{order_with}
use Rattle.medium_core.proofs.Room.{length_with}
use Rattle.medium_core.proofs.flights.empty_heap.Goals as goal

pub loop-flight-preserved : goal.loop-flight-preserved
loop-flight-preserved c =
    let i = c.loop-flight.invariant in
    let old : List Flight = c.loop-flight.queue.items in
    let flight = c.in-Some.flight in
    let e = c.in-Some.ensures.some in
    let k = c.insert_in_order.ensures in
    record {
      order = subst InOrder (sym k.items) (order_with flight old i.order);
      room = omega (arith, i.room, ap length e, ap length k.items, length_with flight old, k.capacity);
      same = ap (with_flights c.take_next.new.self.flights) k.items ∙ (ap (λ (l : List Flight). with_flights l old) (sym e) ∙ i.same);
      capacity = omega (arith, i.capacity, k.capacity);
      heap_room = c.in-Some.ensures.room ∙ i.heap_room;
    }
