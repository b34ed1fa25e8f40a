use Rattle.std.proofs.Common.{append_assoc, refl}
use Rattle.pictures.proofs.svg.page.memory_columns.draw_managed_column.Goals as goal

pub returns : goal.returns
returns c =
    let drawn = rw (c.managed_left-left.ensures, c.as_str.ensures.value, c.in_ok-range.ensures) at c.in_ok-draw_ground.ensures in
    rw (c.in_ok-draw_managed_boxes.ensures, c.managed_left-left.ensures, drawn, append_assoc) refl
