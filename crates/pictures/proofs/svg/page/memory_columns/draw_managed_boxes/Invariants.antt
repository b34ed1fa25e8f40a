use Rattle.std.proofs.Common.{◌≡◌, ◌++◌, take, flat_map}
use Rattle.pictures.specs.Svg.Boxes.{managed_box}
use Rattle.pictures.proofs.svg.page.memory_columns.draw_managed_boxes.Given as goal

abbrev pub invariant-loop-stay : goal.invariant-loop-stay
invariant-loop-stay l = l.pen.content ≡ l.initial.pen.content ++ flat_map (managed_box l.page l.column) (take l.stay-index l.stays)
