use Rattle.std.proofs.Common.{ap, sym, ◌∙◌}
use Rattle.medium_core.specs.Code.Heap.{Pile}
use Rattle.medium_core.proofs.Holding.{flights_less, held_less, held_same}
use Rattle.medium_core.proofs.flight_heap.FlightHeap.take_next.Goals as goal
use Rattle.medium_core.proofs.flight_heap.FlightHeap.take_next.Goals.{in-Some, in-None}

pub invariant_of-self : goal.invariant_of-self
invariant_of-self c =
    elim c.match-pop.branch [
      | in-Some w ↦
          let e = w.in-Some.ensures in
          held_less _ _ _ _ c.self.invariant w.in-Some.first _ _ c.pop.ensures.capacity (e.heap_order c.self.invariant.heap).0 e.permutation
      | in-None w ↦ held_same _ _ _ _ c.self.invariant _ _ c.pop.ensures.capacity w.in-None.ensures.unchanged.0
    ]

pub returns-clause-some : goal.returns-clause-some
returns-clause-some c =
    elim c.match-pop.branch [
      | in-Some w ↦
          let e = w.in-Some.ensures in
          rw w.result-is
          (sym (ap (λ (p : Pile). p.flights) c.self.view_is)
          ∙ flights_less _ _ _ _ c.self.invariant w.in-Some.first _ e.permutation (e.heap_order c.self.invariant.heap).1)
      | in-None w ↦ rw w.result-is tt
    ]
