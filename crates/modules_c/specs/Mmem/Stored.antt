-- Managed memory that C keeps: a table with a row for each handle, and a buffer.
use Rattle.std.specs.Prelude.{◌≡◌, ◌≢◌, ℕ, ◌≤◌, ◌<◌, ◌+◌, ◌/◌, ◌%◌, ◌==◌, List, length, map, replicate, Option, Some, None, if◌then◌else◌}
use Rattle.std.specs.Option.{option_map}
use Rattle.mote_types.specs.Rounding.{up4}
use Rattle.arena_core.specs.Code.Extents.{Extent, AreApart}
use Rattle.mmem_core.specs.declared.place.Place.{Place}
use Rattle.mmem_core.specs.ManagedStore.{ManagedStore, empty_store}
use Rattle.mmem_core.specs.Code.HandleTable.{bytes_at}
use Rattle.mmem_core.specs.Code.Places.{place_in}
use Rattle.modules_c.specs.declared.mmem.block.Block.{Block}

-- rows have numbers of 32 bits: those of a buffer with as many bytes as this might not fit
abbrev pub row_limit : ℕ
row_limit = 4294967296

-- where a row says that a block is, if it has one
abbrev pub place_told : Block → Option Place
place_told row = if row.size == 0 then None else Some (record { at = row.offset; len = row.size })

abbrev pub places_told : List Block → List (Option Place)
places_told table = map place_told table

-- what the handles stand for: the bytes of the buffer at the positions of their blocks. There is no quota
abbrev pub stored : List Block → List ℕ → ManagedStore
stored table buffer = record {
  capacity = length buffer;
  quota = None;
  blocks = map (option_map (bytes_at buffer)) (places_told table);
}

-- the part of the buffer that a block takes: its length, rounded up
abbrev pub part_of : Place → Extent
part_of place = record { at = place.at; len = up4 place.len }

-- the blocks are in n bytes, and no two of them share one
pub record IsTable (table : List Block) (capacity : ℕ) : Type 0 where
  pub inside : (i : ℕ) (place : Place) → place_in (places_told table) i ≡ Some place → place.at + up4 place.len ≤ capacity
  pub apart : (i j : ℕ) (one other : Place) → i ≢ j
      → place_in (places_told table) i ≡ Some one → place_in (places_told table) j ≡ Some other
      → AreApart (part_of one) (part_of other)

-- each block that a table has and had is where it was, or lower
abbrev pub LieNoHigher : List Block → List Block → Type 0
LieNoHigher before after = (i : ℕ) (old new : Place)
    → place_in (places_told before) i ≡ Some old → place_in (places_told after) i ≡ Some new → new.at ≤ old.at

-- of two blocks that a table has and had, the lower one still is
abbrev pub KeepOrder : List Block → List Block → Type 0
KeepOrder before after = (i j : ℕ) (low high new_low new_high : Place)
    → place_in (places_told before) i ≡ Some low → place_in (places_told before) j ≡ Some high
    → place_in (places_told after) i ≡ Some new_low → place_in (places_told after) j ≡ Some new_high
    → low.at < high.at → new_low.at < new_high.at

-- a handle as a name of mmem_core's: sixteen of them to a process, the first ones to process 3
abbrev pub process_of : ℕ → ℕ
process_of handle = 3 + handle / 16

abbrev pub handle_of : ℕ → ℕ
handle_of handle = handle % 16

-- n handles, none of which has a block
abbrev pub unused_store : ℕ → ℕ → ManagedStore
unused_store count capacity = record (empty_store capacity None) { blocks = replicate count None }
