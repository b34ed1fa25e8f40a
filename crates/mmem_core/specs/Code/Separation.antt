-- Where the live blocks are in the arena. No reply shows it: replies are read from the map of handles to bytes.
use Rattle.std.specs.Prelude.{◌≡◌, ◌≢◌, ℕ, ◌+◌, ◌⊎◌, slice_set, Option, Some, None}
use Rattle.std.specs.Option.{option_map}
use Rattle.mote_types.specs.Kinds.{ProcessNumber, Handle, Bytes}
use Rattle.mote_types.specs.BlockNames.{number_of}
use Rattle.mote_types.specs.Code.Conditions.{IsName}
use Rattle.mote_types.specs.Bytes.{range_of}
use Rattle.mote_types.specs.Rounding.{up4}
use Rattle.arena_core.specs.Code.Extents.{Extent, LiesIn, AreApart}
use Rattle.mmem_core.specs.declared.place.Place.{Place}
use Rattle.mmem_core.specs.ManagedStore.{block_of}
use Rattle.mmem_core.specs.Code.Places.{place_in, last_end}
use Rattle.mmem_core.specs.Code.HandleTable.{HandleTable, store_of}

-- the position of p's block in the span, if it is live
abbrev pub place_of : ProcessNumber → Handle → HandleTable → Option Place
place_of p handle table = place_in table.places (number_of p handle)

-- where the last one ends of all blocks but p's
abbrev pub end_of_others : ProcessNumber → Handle → HandleTable → ℕ
end_of_others p handle table = last_end (slice_set table.places (number_of p handle) None)

-- the part of the arena that the block at a position takes: its length, rounded up
abbrev pub extent_of : HandleTable → Place → Extent
extent_of table place = record { at = table.span.at + place.at; len = up4 place.len }

-- the bytes that the block at a position has in the arena: the first ones of that part
abbrev pub bytes_at_place : HandleTable → Bytes → Place → Bytes
bytes_at_place table bytes place = range_of (table.span.at + place.at) place.len bytes

-- Each live block takes a part of the table's span, and its bytes are read from there; the parts of two blocks of different
-- names share no byte.
pub record BlocksLieApart (table : HandleTable) (bytes : Bytes) : Type 0 where
  pub read : (p h : ℕ) → block_of p h (store_of table bytes) ≡ option_map (bytes_at_place table bytes) (place_of p h table)
  pub inside : (p h : ℕ) (place : Place) → place_of p h table ≡ Some place → LiesIn table.span (extent_of table place)
  pub apart : (p h q k : ℕ) (one other : Place) → IsName p h → IsName q k → (p ≢ q) ⊎ (h ≢ k)
      → place_of p h table ≡ Some one → place_of q k table ≡ Some other
      → AreApart (extent_of table one) (extent_of table other)
