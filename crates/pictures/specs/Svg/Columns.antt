-- The columns of managed memory and of the heap: how many bytes each shows, and all that is drawn there.
use Rattle.std.specs.Prelude.{◌≡◌, ◌⊎◌, ℕ, ◌-◌, ◌<◌, min, max, List, [], ◌∷◌, ◌++◌, flat_map, codes, decimal, length}
use Rattle.std.specs.Int.{IsNextPowerOfTwo}
use Rattle.pictures.specs.Svg.Parts.{text_of}
use Rattle.pictures.specs.declared.memory.Sizes.{Sizes}
use Rattle.pictures.specs.declared.memory.stay.Stay.{Stay}
use Rattle.pictures.specs.declared.svg.page.memory_columns.Column.{Column}
use Rattle.pictures.specs.declared.svg.page.Page.{Page}
use Rattle.pictures.specs.declared.svg.page.pen.Area.{Area}
use Rattle.pictures.specs.Svg.Boxes.{area_text, point_at, block_end, heap_box, managed_box}
use Rattle.pictures.specs.Svg.Elements.{words_element}
use Rattle.pictures.specs.Svg.Positions.{bottom, heap_left, managed_left}

-- ---- bytes

-- the end of the block that reaches furthest
abbrev pub furthest : List Stay → ℕ
furthest [] = 0
furthest (stay ∷ stays) = max (block_end stay) (furthest stays)

-- the first power of two, from 64 on, that no block reaches beyond, but no more bytes than there are
abbrev pub IsRange : List Stay → ℕ → ℕ → Type 0
IsRange stays size bytes =
    (power : ℕ) × IsNextPowerOfTwo (max (furthest stays) 64) power × (bytes ≡ min power (max size (furthest stays)))

-- ---- what is drawn

-- a column's ground: all rows
abbrev pub ground_area : Page → ℕ → ℕ → Area
ground_area page left width = record { corner = point_at left page.top; width = width; height = bottom page - page.top }

-- and above it two lines of words
abbrev pub ground_of : Page → ℕ → ℕ → List ℕ → List ℕ → List ℕ
ground_of page left width name range =
    area_text (codes "j") (ground_area page left width) []
    ++ text_of (words_element (codes "b") (point_at left (page.top - 24)) name)
    ++ text_of (words_element (codes "g") (point_at left (page.top - 12)) range)

-- managed memory follows the words, and the heap follows that
abbrev pub managed_column : Page → ℕ → Column
managed_column page bytes = record { left = managed_left page; width = page.columns.managed; bytes = bytes }

abbrev pub heap_column : Page → ℕ → Column
heap_column page bytes = record { left = heap_left page; width = page.columns.heap; bytes = bytes }

abbrev pub managed_range : ℕ → ℕ → List ℕ
managed_range bytes size = codes "0 to " ++ decimal bytes ++ codes " of " ++ decimal size ++ codes " bytes"

abbrev pub heap_range : ℕ → ℕ → ℕ → List ℕ
heap_range bytes size most =
    codes "0 to " ++ decimal bytes ++ codes " of " ++ decimal size ++ codes " bytes, at most " ++ decimal most ++ codes " blocks at once"

abbrev pub managed_text : Page → List Stay → ℕ → ℕ → List ℕ
managed_text page stays size bytes =
    ground_of page (managed_left page) page.columns.managed (codes "managed memory") (managed_range bytes size)
    ++ flat_map (managed_box page (managed_column page bytes)) stays

abbrev pub heap_text : Page → List Stay → ℕ → Sizes → ℕ → List ℕ
heap_text page stays most sizes bytes =
    ground_of page (heap_left page) page.columns.heap (codes "heap") (heap_range bytes sizes.heap most)
    ++ flat_map (heap_box page (heap_column page bytes) sizes.header) stays

-- nothing is added to what was drawn where there are no blocks, otherwise the text for the column's bytes
abbrev pub AddsColumn : List Stay → ℕ → (ℕ → List ℕ) → List ℕ → List ℕ → Type 0
AddsColumn stays size text old new =
    ((stays ≡ []) × (new ≡ old)) ⊎ ((0 < length stays) × ((bytes : ℕ) × IsRange stays size bytes × (new ≡ old ++ text bytes)))
