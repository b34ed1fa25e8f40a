use Rattle.heap_core.proofs.Lemmas.{◌<◌, ◌-◌, place_in_link, Searched}
use Rattle.heap_core.proofs.region.Region.best_gap.Given as goal

abbrev pub invariant-loop-next : goal.invariant-loop-next
invariant-loop-next l = Searched l.self l.arena.bytes l.fn.need l.best (place_in_link l.last) (place_in_link l.next) × (l.last < 4294967296)
    × (l.next < 4294967296)

abbrev pub decreases-loop-next : goal.decreases-loop-next
decreases-loop-next l = l.self.footprint - l.next
