use Rattle.std.proofs.Common.{length, ◌-◌, ◌≡◌, ◌≤◌, drop}
use Rattle.network_steps.specs.NetworkText.{fate_lines}
use Rattle.network_steps.proofs.fates.next_fate.Given as goal

abbrev pub invariant-loop-at : goal.invariant-loop-at
invariant-loop-at l = (fate_lines l.from (drop l.at l.links) ≡ fate_lines l.from (drop l.initial.at l.links)) × (l.initial.at ≤ l.at)

abbrev pub decreases-loop-at : goal.decreases-loop-at
decreases-loop-at l = length l.links - l.at
