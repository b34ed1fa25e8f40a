use Rattle.std.proofs.Common.{◌≡◌, ◌⊎◌, ◌*◌, ◌^◌, ◌<◌}
use Rattle.pictures.proofs.dump.declarations.Scale.of.Given as goal

abbrev pub invariant-loop-unit : goal.invariant-loop-unit
invariant-loop-unit l = record {
  some : 0 < l.scale.units;
  room : (l.most < l.scale.units) ⊎ (l.scale.units * 10 ≡ 10 ^ l._unit);
}
