use Rattle.std.proofs.Common.{◌≡◌}
use Rattle.pictures.proofs.facts.waiting.Queue.end_front.Given as goal

abbrev pub invariant-loop-event : goal.invariant-loop-event
invariant-loop-event l = l.self ≡ l.initial.self
