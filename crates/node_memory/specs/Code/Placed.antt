-- The memory of a node together with the positions of its blocks in the arena.
use Rattle.std.specs.Prelude.{ℕ, ◌+◌, List, map}
use Rattle.mmem_core.specs.Code.HandleTable.{HandleTable, store_of}
use Rattle.heap_core.specs.declared.region.Region.{Region}
use Rattle.heap_core.specs.Code.HeapBytes.{heap_of}
use Rattle.memb_core.specs.Code.Links.{list_of}
use Rattle.memb_core.specs.Code.PoolBytes.{pool_of}
use Rattle.memb_core.specs.declared.list_name.ListName.{ListName}
use Rattle.node_memory.specs.declared.listed_pool.ListedPool.{ListedPool}
use Rattle.node_memory.specs.ListedPools.{PoolWithLists}
use Rattle.node_memory.specs.Memory.{Memory}

-- the arena's bytes, and what is stored besides them: where the blocks are, and which are live
pub record Layout : Type 0 where
  pub managed : HandleTable
  pub heap : Region
  pub pools : List ListedPool
  pub bytes : List ℕ

-- what a pool and its lists show with these bytes of the arena
abbrev pub seen : ListedPool → List ℕ → PoolWithLists
seen listed bytes =
    record {
      pool = pool_of listed.pool bytes;
      first = list_of ListName.First listed.lists listed.pool bytes;
      second = list_of ListName.Second listed.lists listed.pool bytes;
    }

-- what the bytes stand for
abbrev pub contents_of : Layout → Memory
contents_of layout =
    record {
      managed = store_of layout.managed layout.bytes;
      heap = heap_of layout.heap layout.bytes;
      pools = map (λ l. seen l layout.bytes) layout.pools;
    }

pub record PlacedMemory : Type 0 where
  -- all that shows in replies
  pub contents : Memory
  pub layout : Layout

abbrev pub placed : Layout → PlacedMemory
placed layout = record { contents = contents_of layout; layout = layout }

-- the last process that may have managed blocks: where there is no quota, 19
abbrev pub last_owner : PlacedMemory → ℕ
last_owner m = 2 + m.layout.managed.quotas.owners
