use Rattle.std.proofs.Common.{map}
use Rattle.pictures.specs.Ascending.{Ascend}
use Rattle.pictures.proofs.facts.take_lines.Given as goal

abbrev pub invariant-loop-number : goal.invariant-loop-number
invariant-loop-number l = record {
  queue : Ascend 0 l.queue l.number;
  lists : Ascend 0 (map (λ chain. chain.line) l.lists) l.number;
}
