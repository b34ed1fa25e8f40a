use Rattle.std.proofs.Common.{append_assoc, refl}
use Rattle.pictures.proofs.svg.page.memory_columns.draw_pale_parts.Goals as goal

pub returns : goal.returns
returns c = rw (c.in_ok-draw_beyond.ensures, c.in_ok-draw_pale_part.ensures, c.beyond.ensures, c.part_of-front.ensures, append_assoc) refl
