use Rattle.std.proofs.Common.{◌≡◌, ◌≤◌, ◌+◌, length}
use Rattle.std.specs.VecDeque.{deque_capacity}
use Rattle.medium_core.specs.Code.Queue.{InOrder}
use Rattle.medium_core.specs.Flights.{with_flights}
use Rattle.medium_core.proofs.flights.empty_heap.Given as goal

abbrev pub invariant-loop-flight : goal.invariant-loop-flight
invariant-loop-flight l =
    record {
      order : InOrder l.queue.items;
      room : length l.heap.flights + length l.queue.items ≤ deque_capacity l.queue;
      same : with_flights l.heap.flights l.queue.items ≡ with_flights l.initial.heap.flights l.initial.queue.items;
      capacity : deque_capacity l.initial.queue ≤ deque_capacity l.queue;
      heap_room : l.heap.room ≡ l.initial.heap.room;
    }

abbrev pub decreases-loop-flight : goal.decreases-loop-flight
decreases-loop-flight l = length l.heap.flights
