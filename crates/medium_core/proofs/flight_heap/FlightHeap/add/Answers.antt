use Rattle.std.proofs.Common.{List, ◌∷◌, ◌<◌, ◌+◌, length, ap, refl, ◌∙◌, arith, heap_items, IsOk, IsPermutation, OnOk, Result, Ok, Err}
use Rattle.std.proofs.lemmas.Grind.{common_steps}
use Rattle.medium_core.specs.declared.flight.Flight.{Flight}
use Rattle.medium_core.specs.declared.numbered.Numbered.{Numbered}
use Rattle.medium_core.specs.Code.Heap.{Pile}
use Rattle.medium_core.specs.Flights.{with_flight}
use Rattle.medium_core.proofs.Holding.{flights_more, held_more}
use Rattle.medium_core.proofs.Sorting.{length_flights}
use Rattle.medium_core.proofs.flight_heap.FlightHeap.add.Goals as goal

of_ok : {A E P : Type 0} (r : Result A E) → IsOk r → OnOk r P → P
of_ok (Ok x) ok p = p
of_ok (Err e) ok p = absurd (cc)

added : goal.After-push → Numbered
added c = record { number = c.self.inside.number; flight = c.args.flight }

is_free : (c : goal.After-push) → length (heap_items c.self.inside.heap) < c.self.inside.room
is_free c =
    let items = heap_items c.self.inside.heap in
    omega (arith, length_flights items, ap (λ (p : Pile). length p.flights) c.self.view_is, ap (λ (p : Pile). p.room) c.self.view_is, c.requires.room)

is_ok : (c : goal.After-push) → IsOk c.push.result
is_ok c =
    let free = is_free c in
    let taken = c.self.invariant.taken in
    c.push.ensures.succeeds (grind (arith, common_steps))

is_pushed : (c : goal.After-push) → IsPermutation (added c ∷ heap_items c.self.inside.heap) (heap_items c.push.new.self)
unfolding added
is_pushed c = of_ok c.push.result (is_ok c) c.push.ensures.permutation

pub invariant_of-self : goal.invariant_of-self
unfolding added
invariant_of-self c =
    held_more _ _ _ _ c.self.invariant (added c) _ _ refl (is_free c) c.push.ensures.capacity
    (of_ok c.push.result (is_ok c) c.push.ensures.heap_order c.self.invariant.heap) (is_pushed c)

pub returns : goal.returns
unfolding added
returns c =
    let more = flights_more _ _ _ _ c.self.invariant (added c) _ refl (is_pushed c) in
    ap (λ (l : List Flight). record { room = c.self.inside.room; number = c.self.inside.number + 1; flights = l }) more
    ∙ ap (λ (p : Pile). record { room = p.room; number = p.number + 1; flights = with_flight c.args.flight p.flights }) c.self.view_is
