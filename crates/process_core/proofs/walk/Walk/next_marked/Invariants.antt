use Rattle.process_core.proofs.Lemmas.{◌≡◌, length, from_marked}
use Rattle.process_core.proofs.walk.Walk.next_marked.Given as goal

abbrev pub invariant-loop-pid : goal.invariant-loop-pid
invariant-loop-pid l = from_marked l.processes l.self ≡ from_marked l.processes l.fn.self

abbrev pub decreases-loop-pid : goal.decreases-loop-pid
decreases-loop-pid l = length l.self
