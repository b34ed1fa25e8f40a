use Rattle.heap_core.proofs.Lemmas.{◌<◌, ◌-◌, place_in_link, Walked}
use Rattle.heap_core.proofs.region.Region.places_beside.Given as goal

abbrev pub invariant-loop-next : goal.invariant-loop-next
invariant-loop-next l = Walked l.self l.arena.bytes l.fn.at (place_in_link l.below) (place_in_link l.next) × (l.below < 4294967296)
    × (l.next < 4294967296)

abbrev pub decreases-loop-next : goal.decreases-loop-next
decreases-loop-next l = l.self.footprint - l.next
