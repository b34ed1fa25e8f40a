use Rattle.std.proofs.Common.{arith}
use Rattle.std.specs.List.{IsDistinct}
use Rattle.medium_core.proofs.flight_heap.FlightHeap.new.Goals as goal

pub invariant_of-result : goal.invariant_of-result
unfolding IsDistinct
invariant_of-result c = record {
  heap = c.in_ok-heap.ensures.heap_order;
  apart = rw c.in_ok-heap.ensures.items tt;
  numbered = rw c.in_ok-heap.ensures.items tt;
  within = rw c.in_ok-heap.ensures.items (omega arith);
  taken = c.in_ok-heap.ensures.capacity;
}
