use Rattle.std.proofs.Common.{◌≡◌, drop}
use Rattle.pictures.specs.Network.InFlight.{after, at_end, seen}
use Rattle.pictures.proofs.network.walk.walked.Given as goal

abbrev pub invariant-loop-at : goal.invariant-loop-at
invariant-loop-at l = after l.at (drop l.at l.lines) (seen l.walk) ≡ at_end l.links l.lines
