use Rattle.std.proofs.Common.{◌≡◌, ap, heap_items, heap_len, sym, length, ◌∙◌, arith}
use Rattle.std.proofs.lemmas.Grind.{common_steps}
use Rattle.medium_core.specs.Code.Heap.{Pile}
use Rattle.medium_core.proofs.Sorting.{length_flights}
use Rattle.medium_core.proofs.flight_heap.FlightHeap.len.Goals as goal

pub returns : goal.returns
returns c =
    let count : heap_len c.self.inside.heap ≡ length (heap_items c.self.inside.heap) = grind (arith, common_steps) in
    c.len.ensures ∙ (count ∙ (sym (length_flights (heap_items c.self.inside.heap)) ∙ ap (λ (p : Pile). length p.flights) c.self.view_is))
