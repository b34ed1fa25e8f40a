-- The state of managed memory besides the bytes, which are in the arena.
use Rattle.std.specs.Prelude.{◌≡◌, ℕ, ◌+◌, ◌-◌, ◌^◌, ◌≤◌, List, length, map, slice_range, Option, min}
use Rattle.std.specs.Option.{option_map}
use Rattle.mote_types.specs.Kinds.{Bytes}
use Rattle.arena_core.specs.declared.span.Span.{Span}
use Rattle.arena_core.specs.Code.Contents.{Contents}
use Rattle.arena_core.specs.Code.Outside.{ChangesOnly}
use Rattle.mmem_core.specs.declared.place.Place.{Place}
use Rattle.mmem_core.specs.declared.quotas.Quotas.{Quotas}
use Rattle.mmem_core.specs.ManagedStore.{ManagedStore}
use Rattle.mmem_core.specs.Code.Places.{bytes_moved}

pub record HandleTable : Type 0 where
  -- the part of the arena that the blocks are in
  pub span : Span
  -- how much each process may hold, and which processes may hold blocks
  pub quotas : Quotas
  pub places : List (Option Place)
  -- the number of bytes moved so far
  pub slid : ℕ

-- the bytes of the block at that position
abbrev pub bytes_at : Bytes → Place → Bytes
bytes_at region place = slice_range region place.at (place.at + place.len)

-- the bytes of the table's span
abbrev pub region_of : HandleTable → Bytes → Bytes
region_of table bytes = slice_range bytes table.span.at (table.span.at + table.span.len)

-- what the handles stand for. Of the arena's bytes it reads only the span's
abbrev pub store_of : HandleTable → Bytes → ManagedStore
store_of table bytes =
    record {
      capacity = table.span.len;
      quota = table.quotas.each;
      blocks = map (option_map (bytes_at (region_of table bytes))) table.places;
    }

-- the table's span is in these bytes
abbrev pub IsWithin : HandleTable → Bytes → Type 0
IsWithin table bytes = table.span.at + table.span.len ≤ length bytes

-- the table keeps its span and its quotas, and of the arena only bytes of that span changed
pub record KeepsToSpan (old new : HandleTable) (old_arena new_arena : Contents) : Type 0 where
  pub span : new.span ≡ old.span
  pub quotas : new.quotas ≡ old.quotas
  pub carved : new_arena.carved ≡ old_arena.carved
  pub bytes : ChangesOnly old.span.at old.span.len old_arena.bytes new_arena.bytes

-- the bytes moved so far count those that this call moved: the rounded sizes of the blocks whose position it changed
abbrev pub CountsMoved : HandleTable → HandleTable → Type 0
CountsMoved old new = new.slid ≡ min (old.slid + bytes_moved old.places new.places) (2 ^ 64 - 1)
