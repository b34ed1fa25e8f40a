use Rattle.std.proofs.Common.{◌≡◌}
use Rattle.pictures.proofs.dump.levels.Levels.apply_all.Given as goal

abbrev pub invariant-loop-change : goal.invariant-loop-change
invariant-loop-change l = l.self.running ≡ l.initial.self.running
