-- The columns of the pools: one for each pool of which a block is used, with a bar for each of these blocks.
use Rattle.std.specs.Prelude.{ℕ, ◌+◌, ◌-◌, ◌*◌, ◌/◌, ◌%◌, max, Bool, false, ◌==◌, if◌then◌else◌, List, [], ◌∷◌, ◌++◌, codes}
use Rattle.std.specs.Prelude.{count_by, decimal, flat_map, map, slice_index_or, take}
use Rattle.std.specs.List.{list_any}
use Rattle.pictures.specs.declared.memory.stay.Stay.{Stay}
use Rattle.pictures.specs.declared.svg.page.Page.{Page}
use Rattle.pictures.specs.declared.svg.page.pen.Area.{Area}
use Rattle.pictures.specs.declared.svg.page.pool_columns.Pools.{Pools}
use Rattle.pictures.specs.Svg.Boxes.{area_text, point_at, box_class}
use Rattle.pictures.specs.Svg.Columns.{ground_of}
use Rattle.pictures.specs.Svg.Positions.{capped, end_of, pool_left, row_middle}

-- ---- which pools have a column

-- a pool has 16 blocks
abbrev pub pool_of : Stay → ℕ
pool_of stay = stay.at / 16

abbrev pub block_of : Stay → ℕ
block_of stay = stay.at % 16

abbrev pub numbers : List ℕ
numbers = 0 ∷ 1 ∷ 2 ∷ 3 ∷ []

abbrev pub is_used : List Stay → ℕ → Bool
is_used used pool = list_any (λ stay. pool_of stay == pool) used

abbrev pub pools_of : List Stay → Pools
pools_of used = record { are_used = map (is_used used) numbers }

-- how many pools before that one have a column
abbrev pub columns_before : Pools → ℕ → ℕ
columns_before pools pool = count_by (λ is. is) (take pool pools.are_used)

abbrev pub column_left : Page → Pools → ℕ → ℕ
column_left page pools pool = pool_left page (columns_before pools pool)

-- ---- what is drawn

abbrev pub pool_name : ℕ → List ℕ
pool_name pool = codes "pool " ++ decimal pool

-- a column is 80 pixels wide
abbrev pub pool_ground : Page → Pools → ℕ → List ℕ
pool_ground page pools pool = ground_of page (column_left page pools pool) 80 (pool_name pool) (codes "blocks 0 to 15")

abbrev pub column_text : Page → Pools → ℕ → List ℕ
column_text page pools pool = if slice_index_or pools.are_used pool false then pool_ground page pools pool else []

-- a block has 5 pixels of its pool's column, and what is narrower is in the middle of these
abbrev pub block_area : Page → Pools → ℕ → Stay → Area
block_area page pools width stay = record {
  corner = point_at (capped (column_left page pools (pool_of stay) + 5 * block_of stay + (5 - width) / 2)) (row_middle page stay.first);
  width = width;
  height = max (end_of page stay.last - row_middle page stay.first) 1;
}

abbrev pub block_name : Stay → List ℕ
block_name stay = codes "block " ++ decimal (block_of stay) ++ codes " of pool " ++ decimal (pool_of stay)

abbrev pub used_title : Stay → List ℕ
used_title stay = block_name stay ++ codes ", taken by process " ++ decimal stay.pid

abbrev pub used_bar : Page → Pools → Stay → List ℕ
used_bar page pools stay = area_text (box_class stay) (block_area page pools 5 stay) (used_title stay)

abbrev pub linked_title : Stay → List ℕ
linked_title stay = block_name stay ++ codes " is in list " ++ decimal stay.name

-- a pool has two lists: the first one's marks are dark, the second one's light
abbrev pub linked_class : Stay → List ℕ
linked_class stay = if stay.name % 2 == 0 then codes "c0" else codes "c1"

abbrev pub linked_mark : Page → Pools → Stay → List ℕ
linked_mark page pools stay = area_text (linked_class stay) (block_area page pools 2 stay) (linked_title stay)

abbrev pub pools_text : Page → Pools → List Stay → List Stay → List ℕ
pools_text page pools used linked =
    flat_map (column_text page pools) numbers ++ flat_map (used_bar page pools) used ++ flat_map (linked_mark page pools) linked
