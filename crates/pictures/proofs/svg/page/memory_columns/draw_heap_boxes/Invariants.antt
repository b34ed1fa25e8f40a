use Rattle.std.proofs.Common.{◌≡◌, ◌++◌, take, flat_map}
use Rattle.pictures.specs.Svg.Boxes.{heap_box}
use Rattle.pictures.proofs.svg.page.memory_columns.draw_heap_boxes.Given as goal

abbrev pub invariant-loop-stay : goal.invariant-loop-stay
invariant-loop-stay l = l.pen.content ≡ l.initial.pen.content ++ flat_map (heap_box l.page l.column l.header) (take l.stay-index l.stays)
