-- When a new block may be put after the last one.
use Rattle.std.specs.Prelude.{◌≡◌, ℕ, ◌+◌, ◌≤◌, List, None}
use Rattle.mote_types.specs.Code.Conditions.{IsName}
use Rattle.mote_types.specs.Rounding.{up4}
use Rattle.mmem_core.specs.ManagedStore.{block_of, free, unused}
use Rattle.mmem_core.specs.Code.Places.{last_end}
use Rattle.mmem_core.specs.Code.HandleTable.{HandleTable, store_of, IsWithin}

-- p has no block under this handle, may have n bytes more, and n bytes are free after the last block
pub record MayFollow (table : HandleTable) (bytes : List ℕ) (p handle n : ℕ) : Type 0 where
  pub named : IsName p handle
  pub owner : p ≤ 2 + table.quotas.owners
  pub within : IsWithin table bytes
  pub fresh : block_of p handle (store_of table bytes) ≡ None
  pub some_bytes : 1 ≤ n
  pub share : up4 n ≤ free p (store_of table bytes)
  pub fits : up4 n ≤ unused (store_of table bytes)
  pub room : last_end table.places + up4 n ≤ table.span.len
