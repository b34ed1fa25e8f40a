use Rattle.std.proofs.Common.{append_assoc, refl}
use Rattle.pictures.proofs.svg.page.memory_columns.draw_heap_box.Goals as goal

pub returns : goal.returns
returns c =
    let drawn = rw (c.as_str.ensures.value, c.in_ok-title.ensures) at c.in_ok-draw_box.ensures in
    rw (c.in_ok-draw_pale_parts.ensures, drawn, append_assoc) refl
