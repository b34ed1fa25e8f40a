use Rattle.std.proofs.Common.{◌≡◌, ◌++◌, take, flat_map}
use Rattle.pictures.specs.Svg.Pools.{used_bar}
use Rattle.pictures.proofs.svg.page.pool_columns.draw_bars.Given as goal

abbrev pub invariant-loop-stay : goal.invariant-loop-stay
invariant-loop-stay l = l.pen.content ≡ l.initial.pen.content ++ flat_map (used_bar l.page l.pools) (take l.stay-index l.used)
