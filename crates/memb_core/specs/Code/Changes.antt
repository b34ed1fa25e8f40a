-- How the code changes what a pool and its lists keep.
use Rattle.std.specs.Prelude.{ℕ, Bool, Option, slice_set}
use Rattle.memb_core.specs.declared.list_name.ListName.{ListName}
use Rattle.memb_core.specs.Code.PoolTable.{PoolTable, ListHeads}

-- the lists with another head stored for one of them
abbrev pub with_start : ListName → Option ℕ → ListHeads → ListHeads
with_start ListName.First start lists = record lists { first = start }
with_start ListName.Second start lists = record lists { second = start }

-- block b is used from now on, or is not
abbrev pub with_used : ℕ → Bool → PoolTable → PoolTable
with_used b is_used pool = record pool { used = slice_set pool.used b is_used }
