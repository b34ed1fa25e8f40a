use Rattle.heap_core.proofs.Lemmas.{Joins}
use Rattle.heap_core.proofs.region.Region.join.Given as goal

abbrev pub invariant-loop-self : goal.invariant-loop-self
invariant-loop-self l = Joins l.initial.self l.self l.initial.arena l.arena

abbrev pub decreases-loop-self : goal.decreases-loop-self
decreases-loop-self l = l.self.freed
