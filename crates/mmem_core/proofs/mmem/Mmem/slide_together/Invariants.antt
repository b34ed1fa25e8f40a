use Rattle.mmem_core.proofs.Lemmas.{◌-◌, IsMidway}
use Rattle.mmem_core.proofs.mmem.Mmem.slide_together.Given as goal

abbrev pub invariant-loop-next : goal.invariant-loop-next
invariant-loop-next l = IsMidway l.initial.self-inside l.self-inside l.initial.arena l.arena l.next l.end

abbrev pub decreases-loop-next : goal.decreases-loop-next
decreases-loop-next l = l.self-inside.span.len - l.end
