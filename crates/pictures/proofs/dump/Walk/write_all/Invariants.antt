use Rattle.std.proofs.Common.{◌≡◌, ◌<◌, Some}
use Rattle.pictures.specs.Code.Dump.{Writes, first_written}
use Rattle.pictures.specs.Dump.{running_value}
use Rattle.pictures.proofs.dump.Walk.write_all.Given as goal

abbrev pub invariant-loop-index : goal.invariant-loop-index
invariant-loop-index l = record {
  levels : l.self.levels ≡ l.initial.self.levels;
  clock : l.self.clock ≡ l.initial.self.clock;
  scale : l.self.scale ≡ l.initial.self.scale;
  lines : l.self.lines_at_clock ≡ l.initial.self.lines_at_clock;
  first : l.self.dump.first ≡ l.initial.self.dump.first;
  writes : Writes l.initial.self l.self;
  value : 0 < l.index → first_written l.self ≡ Some (running_value l.initial.self.levels.running);
}
