-- The boxes of memory: where each is, what it shows, and what it tells.
use Rattle.std.specs.Prelude.{ℕ, ◌+◌, ◌-◌, ◌*◌, ◌/◌, min, max, ◌||◌, ◌==◌, nat_lt, if◌then◌else◌, List, [], ◌++◌, codes, decimal}
use Rattle.pictures.specs.Svg.Parts.{text_of}
use Rattle.pictures.specs.declared.memory.stay.Stay.{Stay}
use Rattle.pictures.specs.declared.svg.page.memory_columns.Column.{Column}
use Rattle.pictures.specs.declared.svg.page.Page.{Page}
use Rattle.pictures.specs.declared.svg.page.pen.Area.{Area}
use Rattle.pictures.specs.declared.svg.page.pen.Point.{Point}
use Rattle.pictures.specs.Svg.Elements.{area_element, titled, words_element}
use Rattle.pictures.specs.Svg.Positions.{capped, end_of, row_middle}

abbrev pub point_at : ℕ → ℕ → Point
point_at left top = record { left = left; top = top }

-- a rectangle of a class, which shows that
abbrev pub area_text : List ℕ → Area → List ℕ → List ℕ
area_text class area title = text_of (titled title (area_element class area))

-- ---- where a box is

-- the position after a block's last byte
abbrev pub block_end : Stay → ℕ
block_end stay = capped (stay.at + stay.taken)

-- a column shows its bytes along its width, and what is beyond them at its end
abbrev pub reach : Column → ℕ → ℕ
reach column bytes = capped (column.left + capped (column.width * min bytes column.bytes) / max column.bytes 1)

-- a box goes from the block's first byte to its last one, and from its first row to its last one, a pixel at least
abbrev pub area_in : Page → Column → Stay → Area
area_in page column stay = record {
  corner = point_at (reach column stay.at) (row_middle page stay.first);
  width = max (reach column (block_end stay) - reach column stay.at) 1;
  height = max (end_of page stay.last - row_middle page stay.first) 1;
}

-- a number of bytes of a block, from an offset on
abbrev pub part_of : Stay → ℕ → ℕ → Stay
part_of stay from bytes = record stay { at = capped (stay.at + from); taken = bytes }

-- ---- what it shows and tells

-- frames belong to process 3
abbrev pub box_name : Stay → List ℕ
box_name stay = if stay.pid == 3 then codes "frame" else decimal stay.pid ++ codes "." ++ decimal stay.name

abbrev pub name_point : Area → Point
name_point area = point_at (capped (area.corner.left + 3)) (capped (area.corner.top + 11))

-- a name is in a box of 30 pixels and a row, at least
abbrev pub name_in : Area → Stay → List ℕ
name_in area stay =
    if nat_lt area.width 30 || nat_lt area.height 17 then [] else text_of (words_element (codes "v") (name_point area) (box_name stay))

-- a box has its process's colour
abbrev pub box_class : Stay → List ℕ
box_class stay = codes "z f" ++ decimal stay.pid

abbrev pub box_of : Page → Column → Stay → List ℕ → List ℕ
box_of page column stay title = area_text (box_class stay) (area_in page column stay) title ++ name_in (area_in page column stay) stay

-- ---- managed memory

abbrev pub frame_title : Stay → List ℕ
frame_title stay = codes "a frame that is held, " ++ decimal stay.size ++ codes " bytes"

abbrev pub handle_title : Stay → List ℕ
handle_title stay =
    codes "handle " ++ decimal stay.name ++ codes " of process " ++ decimal stay.pid ++ codes ", " ++ decimal stay.size ++ codes " bytes"

abbrev pub managed_title : Stay → List ℕ
managed_title stay = if stay.pid == 3 then frame_title stay else handle_title stay

abbrev pub managed_box : Page → Column → Stay → List ℕ
managed_box page column stay = box_of page column stay (managed_title stay)

-- ---- the heap

abbrev pub heap_name : Stay → List ℕ
heap_name stay =
    codes "heap block " ++ decimal stay.name ++ codes " of process " ++ decimal stay.pid ++ codes ": " ++ decimal stay.size
    ++ codes " bytes"

abbrev pub heap_position : ℕ → ℕ → ℕ → List ℕ
heap_position at end room =
    codes ", room for " ++ decimal room ++ codes ", from " ++ decimal at ++ codes " to " ++ decimal end ++ codes " with its header"

-- a block has its header in front
abbrev pub heap_title : Stay → ℕ → List ℕ
heap_title stay header = heap_name stay ++ heap_position stay.at (block_end stay) (stay.taken - header)

-- what is after a block's header and its length
abbrev pub beyond : Stay → ℕ → Stay
beyond stay header = part_of stay (capped (header + stay.size)) (stay.taken - capped (header + stay.size))

-- a paler part of a block
abbrev pub pale_part : Page → Column → Stay → List ℕ → List ℕ
pale_part page column part title = area_text (codes "u") (area_in page column part) title

abbrev pub beyond_title : Stay → List ℕ
beyond_title rest = decimal rest.taken ++ codes " bytes of room beyond the length"

abbrev pub beyond_text : Page → Column → Stay → List ℕ
beyond_text page column rest =
    if rest.taken == 0 then [] else pale_part page column rest (beyond_title rest)

-- the header is paler, and so is what is beyond the length
abbrev pub pale_parts : Page → Column → Stay → ℕ → List ℕ
pale_parts page column stay header =
    pale_part page column (part_of stay 0 header) (codes "a header") ++ beyond_text page column (beyond stay header)

abbrev pub heap_box : Page → Column → ℕ → Stay → List ℕ
heap_box page column header stay = box_of page column stay (heap_title stay header) ++ pale_parts page column stay header
