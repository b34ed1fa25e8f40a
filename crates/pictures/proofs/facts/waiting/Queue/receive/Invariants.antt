use Rattle.std.proofs.Common.{◌≡◌}
use Rattle.pictures.proofs.facts.waiting.Queue.receive.Given as goal

abbrev pub invariant-loop-index : goal.invariant-loop-index
invariant-loop-index l = record {
  posted : l.self-inside.posted ≡ l.initial.self-inside.posted;
  waits : l.self-inside.waits ≡ l.initial.self-inside.waits;
}
