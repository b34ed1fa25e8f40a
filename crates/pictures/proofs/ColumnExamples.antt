-- Examples: boxes and columns.
use Rattle.std.proofs.Common.{◌≡◌, ℕ, true, false, List, [], ◌∷◌, ◌++◌, Some, None, codes, refl, arith, inl, inr}
use Rattle.std.specs.Fmt.{digits}
use Rattle.pictures.specs.Svg.Parts.{text_of}
use Rattle.pictures.specs.declared.memory.stay.Stay.{Stay}
use Rattle.pictures.specs.declared.svg.page.memory_columns.Column.{Column}
use Rattle.pictures.specs.declared.svg.page.Page.{Page}
use Rattle.pictures.specs.declared.svg.page.pen.Area.{Area}
use Rattle.pictures.specs.Svg.Boxes.{area_in, point_at, beyond, beyond_text, heap_title, managed_title, name_in}
use Rattle.pictures.specs.Svg.Columns.{AddsColumn, IsRange, furthest, ground_area, heap_range, managed_range}
use Rattle.pictures.specs.Svg.Elements.{words_element}
use Rattle.pictures.specs.Svg.Pools.{block_area, column_text, columns_before, linked_class, linked_title, pool_ground}
use Rattle.pictures.specs.Svg.Pools.{pools_of, pools_text, used_title}

abbrev page : Page
page = record { lanes = 4; rows = 10; strip = 0; top = 100; lane = 64; columns = record { managed = 180; heap = 340; pools = 2 } }

-- ---- boxes

abbrev column : Column
column = record { left = 826; width = 180; bytes = 64 }

-- 32 bytes from 16 on: from the second row to the fourth
abbrev block : Stay
block = record { pid = 4; name = 2; at = 16; taken = 32; size = 20; first = 1; last = Some 3 }

its_box : area_in page column block ≡ record { corner = point_at 871 125; width = 90; height = 34 }
its_box = refl

-- bytes beyond the column are drawn at its end, and an empty block has one pixel
beyond_the_column : area_in page column (record block { at = 100 }) ≡ record { corner = point_at 1006 125; width = 1; height = 34 }
beyond_the_column = refl

-- a block that is never freed stays to the last row
never_goes : area_in page column (record block { last = None }) ≡ record { corner = point_at 871 125; width = 90; height = 145 }
never_goes = refl

abbrev area : ℕ → ℕ → Area
area width height = record { corner = point_at 871 125; width = width; height = height }

named : name_in (area 30 17) block ≡ text_of (words_element (codes "v") (point_at 874 136) (codes "4.2"))
unfolding digits
named = refl

too_narrow : name_in (area 29 17) block ≡ []
too_narrow = refl

too_low : name_in (area 30 16) block ≡ []
too_low = refl

frame : managed_title (record block { pid = 3 }) ≡ codes "a frame that is held, 20 bytes"
unfolding digits
frame = refl

handle : managed_title block ≡ codes "handle 2 of process 4, 20 bytes"
unfolding digits
handle = refl

on_the_heap : heap_title block 8 ≡ codes "heap block 2 of process 4: 20 bytes, room for 24, from 16 to 48 with its header"
unfolding digits
on_the_heap = refl

-- after 8 bytes of header and 20 of length
last_four_bytes : beyond block 8 ≡ record block { at = 44; taken = 4 }
last_four_bytes = refl

nothing_beyond : beyond_text page column (beyond block 12) ≡ []
nothing_beyond = refl

-- ---- columns

its_end : furthest (block ∷ record block { at = 0 } ∷ []) ≡ 48
its_end = refl

least_range : IsRange (block ∷ []) 1000 64
least_range = (64, ((6, refl), omega arith, omega arith), refl)

twice_as_many : IsRange (block ∷ []) 1000 128 → ⊥
twice_as_many (power, next, is) = absurd (omega (arith, next.1, next.2, is))

more_than_there_are : IsRange (block ∷ []) 50 64 → ⊥
more_than_there_are (power, next, is) = absurd (omega (arith, is))

all_rows : ground_area page 826 180 ≡ record { corner = point_at 826 100; width = 180; height = 170 }
all_rows = refl

managed_words : managed_range 64 1000 ≡ codes "0 to 64 of 1000 bytes"
unfolding digits
managed_words = refl

heap_words : heap_range 64 1000 3 ≡ codes "0 to 64 of 1000 bytes, at most 3 blocks at once"
unfolding digits
heap_words = refl

abbrev words : ℕ → List ℕ
words bytes = codes "b"

no_column_for_no_blocks : AddsColumn [] 64 words (codes "a") (codes "ab") → ⊥
no_column_for_no_blocks is = elim is [
  | inl none ↦ cc none.1
  | inr drawn ↦ absurd (omega (arith, drawn.0))
]

a_column_for_a_block : AddsColumn (block ∷ []) 64 words (codes "a") (codes "a") → ⊥
a_column_for_a_block is = elim is [
  | inl none ↦ cc none.0
  | inr drawn ↦ cc drawn.1.2
]

-- ---- pools

-- block 0 of pool 0, and block 3 of pool 2
abbrev used : List Stay
used = record block { at = 0 } ∷ record block { at = 35 } ∷ []

two_columns : pools_of used ≡ record { are_used = true ∷ false ∷ true ∷ false ∷ [] }
two_columns = refl

after_one : columns_before (pools_of used) 2 ≡ 1
after_one = refl

unused_pool : column_text page (pools_of used) 1 ≡ []
unused_pool = refl

columns_of_both : pools_text page (pools_of used) [] [] ≡ pool_ground page (pools_of used) 0 ++ pool_ground page (pools_of used) 2
unfolding digits
columns_of_both = refl

nothing_used : pools_text page (pools_of []) [] [] ≡ []
nothing_used = refl

-- its mark is in the middle of its bar
bar : block_area page (pools_of used) 5 (record block { at = 35 }) ≡ record { corner = point_at 1513 125; width = 5; height = 34 }
bar = refl

mark : block_area page (pools_of used) 2 (record block { at = 35 }) ≡ record { corner = point_at 1514 125; width = 2; height = 34 }
mark = refl

taken : used_title (record block { at = 35 }) ≡ codes "block 3 of pool 2, taken by process 4"
unfolding digits
taken = refl

in_a_list : linked_title (record block { at = 35 }) ≡ codes "block 3 of pool 2 is in list 2"
unfolding digits
in_a_list = refl

second_list : linked_class (record block { name = 3 }) ≡ codes "c1"
second_list = refl
