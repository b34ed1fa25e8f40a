use Rattle.std.proofs.Common.{◌≡◌, take}
use Rattle.pictures.specs.Svg.Pools.{is_used}
use Rattle.pictures.proofs.svg.page.pool_columns.is_used.Given as goal

abbrev pub invariant-loop-stay : goal.invariant-loop-stay
invariant-loop-stay l = l.is_found ≡ is_used (take l.stay-index l.used) l.pool
