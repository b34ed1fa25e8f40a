use Rattle.std.proofs.Common.{ap, heap_items, sym, length, refl, ◌<◌, ◌∙◌, arith}
use Rattle.std.proofs.lemmas.Grind.{common_steps}
use Rattle.medium_core.specs.Code.Heap.{Pile}
use Rattle.medium_core.specs.Flights.{first_flight}
use Rattle.medium_core.proofs.Holding.{first_flight_is}
use Rattle.medium_core.proofs.flight_heap.FlightHeap.first.Goals as goal

pub returns-in-Some-clause-some : goal.returns-in-Some-clause-some
returns-in-Some-clause-some c =
    let long = c.in-Some.ensures.variant.0 refl in
    let some : 0 < length (heap_items c.self.inside.heap) = grind (arith, common_steps) in
    sym (ap (λ (p : Pile). first_flight p.flights) c.self.view_is)
    ∙ first_flight_is _ _ _ _ c.self.invariant c.in-Some.first.now some c.in-Some.ensures.lookup
    (c.in-Some.ensures.greatest c.self.invariant.heap)
