use Rattle.std.proofs.Common.{◌≤◌, drop, length}
use Rattle.medium_core.proofs.Placing.{AreLater}
use Rattle.medium_core.proofs.flights.position_after.Given as goal

abbrev pub invariant-loop-at : goal.invariant-loop-at
invariant-loop-at l = record { bound : l.at ≤ length l.queue.items; later : AreLater l.due (drop l.at l.queue.items) }

abbrev pub decreases-loop-at : goal.decreases-loop-at
decreases-loop-at l = l.at
