-- The table and the buffer after a call that gives a handle a block.
use Rattle.std.specs.Prelude.{◌≡◌, ℕ, ◌+◌, ◌≤◌, ◌<◌, List, length, slice_set, IsSomeAnd}
use Rattle.mote_types.specs.Rounding.{up4}
use Rattle.mmem_core.specs.ManagedStore.{unused, allocated}
use Rattle.mmem_core.specs.Code.Places.{place_in, last_end}
use Rattle.modules_c.specs.declared.mmem.block.Block.{Block}
use Rattle.modules_c.specs.Mmem.Stored.{places_told, stored, IsTable, LieNoHigher, KeepOrder, process_of, handle_of}

pub record GivesBlock (old new : List Block) (before after : List ℕ) (handle size : ℕ) : Type 0 where
  pub block : stored new after ≡ allocated (process_of handle) (handle_of handle) size (stored old before)
  pub sound : IsTable new (length after)
  -- where the space after the last block suffices, only the handle's row changes
  pub still : last_end (places_told old) + up4 size ≤ length before
      → new ≡ slice_set old handle (record { offset = last_end (places_told old); size = size })
  -- where it doesn't, all blocks slide together: what is free then is after them
  pub together : length before < last_end (places_told old) + up4 size
      → last_end (places_told new) + unused (stored new after) ≤ length after
  pub down : LieNoHigher old new
  pub order : KeepOrder old new
  -- the new block is the last one
  pub new_last : IsSomeAnd (place_in (places_told new) handle) (λ place. last_end (places_told new) ≡ place.at + up4 size)
