-- A flight was added: the queue and the heap still have room and are in order.
use Rattle.std.proofs.Common.{◌≡◌, ℕ, ◌+◌, ◌<◌, ◌≤◌, List, [], ◌∷◌, ◌++◌, length, ap, sym, subst, arith, length-append}
use Rattle.std.specs.List.{AllByRecursion}
use Rattle.medium_core.specs.declared.flight.Flight.{Flight}
use Rattle.medium_core.specs.Code.Heap.{Pile}
use Rattle.medium_core.specs.Code.Queue.{HasRoom, InOrder, Queue, last_due}
use Rattle.medium_core.specs.Flights.{with_flight, with_flights}
use Rattle.medium_core.proofs.Merging.{ahead_added, length_all, order_added}
use Rattle.medium_core.proofs.Order.{all_with, order_with, order_with_all}
use Rattle.medium_core.proofs.Room.{length_with}

-- there is room for one more
pub free_of : (room : ℕ) (heap queue : List Flight) (now : Queue) → record { room = room; flights = with_flights heap queue } ≡ now →
    length now.flights < now.room → length heap + length queue < room
free_of room heap queue now same free =
    omega (arith, ap (λ (q : Queue). q.room) same, ap (λ (q : Queue). length q.flights) same, length_all heap queue, free)

module _ (room capacity : ℕ) (heap : Pile) (queue : List Flight) (f : Flight) (old : HasRoom room capacity heap queue)
    (free : length heap.flights + length queue < room) where
  -- at the end of the queue
  pub room_at_end : last_due 0 queue ≤ f.due → (new_capacity : ℕ) → new_capacity ≡ capacity → (new : List Flight) → new ≡ queue ++ f ∷ [] →
      HasRoom room new_capacity heap new
  room_at_end late new_capacity kept new is = subst (HasRoom room new_capacity heap) (sym is) (record {
    order = order_added f queue old.order late;
    heap_order = old.heap_order;
    ahead = ahead_added f heap.flights queue late old.ahead;
    within = let e = length-append queue (f ∷ []) in omega (arith, e, free);
    taken = omega (arith, old.taken, kept);
    heap_taken = old.heap_taken;
  })

  -- in the heap
  pub room_in_heap : f.due < last_due 0 queue → (new : Pile) → new.flights ≡ with_flight f heap.flights → new.room ≡ heap.room →
      HasRoom room capacity new queue
  room_in_heap early new is kept = record {
    order = old.order;
    heap_order = subst InOrder (sym is) (order_with f heap.flights old.heap_order);
    ahead = subst (λ (l : List Flight). AllByRecursion (λ (g : Flight). g.due < last_due 0 queue) l) (sym is)
        (all_with (λ (g : Flight). g.due < last_due 0 queue) f heap.flights early old.ahead);
    within = let e = length_with f heap.flights in let l = ap length is in omega (arith, e, l, free);
    taken = old.taken;
    heap_taken = omega (arith, old.heap_taken, kept);
  }

  -- in the queue, after all of the heap
  pub room_in_queue : (new : Pile) → new.flights ≡ [] → new.room ≡ heap.room → (new_capacity : ℕ) → capacity ≤ new_capacity →
      (items : List Flight) → items ≡ with_flight f (with_flights heap.flights queue) → HasRoom room new_capacity new items
  room_in_queue new none kept new_capacity grown items is =
      let all : List Flight = with_flights heap.flights queue in
      record {
        order = subst InOrder (sym is) (order_with f all (order_with_all heap.flights queue old.order));
        heap_order = subst InOrder (sym none) tt;
        ahead = subst (λ (l : List Flight). AllByRecursion (λ (g : Flight). g.due < last_due 0 items) l) (sym none) tt;
        within = let l = ap length is in let n = ap length none in let e = length_with f all in let a = length_all heap.flights queue in omega (arith, l, n, e, a, free);
        taken = omega (arith, old.taken, grown);
        heap_taken = omega (arith, old.heap_taken, kept);
      }
