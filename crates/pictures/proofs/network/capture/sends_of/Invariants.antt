use Rattle.std.proofs.Common.{◌≡◌, ◌++◌, drop}
use Rattle.pictures.specs.Network.Capture.{sends}
use Rattle.pictures.proofs.network.capture.sends_of.Given as goal

abbrev pub invariant-loop-line : goal.invariant-loop-line
invariant-loop-line l = l.sends.items ++ sends l.clock (drop l.line-index l.lines) ≡ sends 0 l.lines
