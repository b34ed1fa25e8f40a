use Rattle.process_core.proofs.Lemmas.{◌≡◌, length, from_application}
use Rattle.process_core.proofs.walk.Walk.pass_kernel_processes.Given as goal

abbrev pub invariant-loop-self : goal.invariant-loop-self
invariant-loop-self l = record {
  passed : from_application l.self ≡ from_application l.fn.self;
}

abbrev pub decreases-loop-self : goal.decreases-loop-self
decreases-loop-self l = length l.self
