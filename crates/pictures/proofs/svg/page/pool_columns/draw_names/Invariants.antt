use Rattle.std.proofs.Common.{◌≡◌, ◌++◌, take, flat_map}
use Rattle.pictures.specs.Svg.Pools.{numbers, column_text}
use Rattle.pictures.proofs.svg.page.pool_columns.draw_names.Given as goal

abbrev pub invariant-loop-pool : goal.invariant-loop-pool
invariant-loop-pool l = l.pen.content ≡ l.initial.pen.content ++ flat_map (column_text l.page l.pools) (take l.pool numbers)
