use Rattle.heap_core.proofs.Lemmas.{Counted, ◌-◌}
use Rattle.heap_core.proofs.region.Region.stats.Given as goal

abbrev pub invariant-loop-at : goal.invariant-loop-at
invariant-loop-at l = Counted l.self l.arena.bytes l.allocated l.chunks l.footprint l.at

abbrev pub decreases-loop-at : goal.decreases-loop-at
decreases-loop-at l = l.self.footprint - l.at
