-- The memory of a node, as its users see it: it shows neither positions of managed and pool blocks nor links.
use Rattle.std.specs.Prelude.{ℕ, List, [], ◌∷◌, map, slice_index_or, slice_set}
use Rattle.mmem_core.specs.ManagedStore.{ManagedStore, empty_store}
use Rattle.heap_core.specs.HeapStore.{HeapStore, empty_heap}
use Rattle.node_memory.specs.declared.sizes.Sizes.{Sizes}
use Rattle.node_memory.specs.ListedPools.{PoolWithLists, unused_pool_of}

pub record Memory : Type 0 where
  pub managed : ManagedStore
  pub heap : HeapStore
  -- pools 0 to 3, which all processes share
  pub pools : List PoolWithLists

-- the number of usable bytes of a block of each pool
abbrev pub usable_sizes : List ℕ
usable_sizes = 12 ∷ 28 ∷ 60 ∷ 124 ∷ []

abbrev pub fresh_memory : Sizes → Memory
fresh_memory sizes =
    record {
      managed = empty_store sizes.mmem sizes.quota;
      heap = empty_heap sizes.heap sizes.header;
      pools = map unused_pool_of usable_sizes;
    }

abbrev pub with_managed : ManagedStore → Memory → Memory
with_managed store m = record m { managed = store }

abbrev pub with_heap : HeapStore → Memory → Memory
with_heap heap m = record m { heap = heap }

abbrev pub pool_in : ℕ → Memory → PoolWithLists
pool_in k m = slice_index_or m.pools k (unused_pool_of 0)

abbrev pub with_pool : ℕ → PoolWithLists → Memory → Memory
with_pool k pool m = record m { pools = slice_set m.pools k pool }
