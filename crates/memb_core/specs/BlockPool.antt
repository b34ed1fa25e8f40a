-- A pool as its users see it: a map from block numbers to byte lists. It shows neither positions nor links.
use Rattle.std.specs.Prelude.{ℕ, List, [], length, replicate, filter, slice_set, slice_index_or, Option, Some, None, is_none, unwrap_or}
use Rattle.std.specs.List.{position}
use Rattle.mote_types.specs.Kinds.{BlockNumber, Offset, Bytes}
use Rattle.mote_types.specs.Bytes.{zeros, overwritten}

pub record BlockPool : Type 0 where
  -- the number of usable bytes of a block
  pub usable : ℕ
  -- for each number the bytes of its block, if it is used
  pub blocks : List (Option Bytes)

abbrev pub unused_pool : ℕ → ℕ → BlockPool
unused_pool count usable = record { usable = usable; blocks = replicate count None }

abbrev pub block_of : BlockNumber → BlockPool → Option Bytes
block_of b pool = slice_index_or pool.blocks b None

abbrev pub first_unused : BlockPool → Option BlockNumber
first_unused pool = position is_none pool.blocks

abbrev pub unused_count : BlockPool → ℕ
unused_count pool = length (filter is_none pool.blocks)

abbrev pub with_block : BlockNumber → Option Bytes → BlockPool → BlockPool
with_block b bytes pool = record pool { blocks = slice_set pool.blocks b bytes }

abbrev pub allocated : BlockNumber → BlockPool → BlockPool
allocated b pool = with_block b (Some (zeros pool.usable)) pool

abbrev pub freed : BlockNumber → BlockPool → BlockPool
freed b = with_block b None

abbrev pub bytes_of : BlockNumber → BlockPool → Bytes
bytes_of b pool = unwrap_or (block_of b pool) []

abbrev pub with_bytes : BlockNumber → Offset → Bytes → BlockPool → BlockPool
with_bytes b at bytes pool = with_block b (Some (overwritten at bytes (bytes_of b pool))) pool
