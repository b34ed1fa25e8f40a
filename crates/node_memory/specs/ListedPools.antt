-- A pool with its two lists, as its users see them.
use Rattle.std.specs.Prelude.{ℕ, ◌%◌, Bool, ◌||◌, List, [], if◌then◌else◌, ◌==◌}
use Rattle.mote_types.specs.Kinds.{BlockNumber}
use Rattle.mote_types.specs.Limits.{blocks_each}
use Rattle.memb_core.specs.BlockPool.{BlockPool, unused_pool}
use Rattle.memb_core.specs.BlockLists.{has_number}
use Rattle.memb_core.specs.declared.list_name.ListName.{ListName}

pub record PoolWithLists : Type 0 where
  pub pool : BlockPool
  pub first : List BlockNumber
  pub second : List BlockNumber

abbrev pub unused_pool_of : ℕ → PoolWithLists
unused_pool_of usable = record { pool = unused_pool blocks_each usable; first = []; second = [] }

abbrev pub list_in : ListName → PoolWithLists → List BlockNumber
list_in ListName.First s = s.first
list_in ListName.Second s = s.second

abbrev pub other_list : ListName → ListName
other_list ListName.First = ListName.Second
other_list ListName.Second = ListName.First

abbrev pub with_list : ListName → List BlockNumber → PoolWithLists → PoolWithLists
with_list ListName.First list s = record s { first = list }
with_list ListName.Second list s = record s { second = list }

abbrev pub with_blocks : BlockPool → PoolWithLists → PoolWithLists
with_blocks pool s = record s { pool = pool }

abbrev pub is_linked : BlockNumber → PoolWithLists → Bool
is_linked b s = has_number b s.first || has_number b s.second

-- lists 2 k and 2 k + 1 are the first and the second one of pool k
abbrev pub list_named : ℕ → ListName
list_named l = if l % 2 == 0 then ListName.First else ListName.Second
