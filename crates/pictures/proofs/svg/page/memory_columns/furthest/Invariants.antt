use Rattle.std.proofs.Common.{◌≡◌, take}
use Rattle.pictures.specs.Svg.Columns.{furthest}
use Rattle.pictures.proofs.svg.page.memory_columns.furthest.Given as goal

abbrev pub invariant-loop-stay : goal.invariant-loop-stay
invariant-loop-stay l = l.reach ≡ furthest (take l.stay-index l.stays)
