-- The calls on memory, one row each: the part that the call is on, and the memory after it. The caller is p.
use Rattle.std.specs.Prelude.{ℕ, ◌/◌, Option, Some, None}
use Rattle.std.specs.Option.{option_map_or}
use Rattle.mote_types.specs.declared.call.Call.{Call}
use Rattle.heap_core.specs.HeapStore.{HeapStore}
use Rattle.mmem_core.specs.ManagedStore.{ManagedStore}
use Rattle.memb_core.specs.declared.list_name.ListName.{ListName}
use Rattle.node_memory.specs.Memory.{Memory}
use Rattle.node_memory.specs.ListedPools.{PoolWithLists}
use Rattle.node_memory.specs.Answered.{Asked, done}
use Rattle.node_memory.specs.declared.parts.Part.{Part}
use Rattle.node_memory.specs.ManagedCalls as managed
use Rattle.node_memory.specs.HeapCalls as heap
use Rattle.node_memory.specs.PoolCalls as pool
use Rattle.node_memory.specs.MemoryCalls.{on_managed, on_heap, on_pool, on_list}

-- what a call asks of the memory: the part that it is on, and the memory after it
pub record Request : Type 0 where
  pub part : Part
  pub answer : Memory → Asked Memory

abbrev pub of_managed : (ManagedStore → Asked ManagedStore) → Option Request
of_managed call = Some (record { part = Part.Managed; answer = on_managed call })

abbrev pub of_heap : (HeapStore → Asked HeapStore) → Option Request
of_heap call = Some (record { part = Part.Heap; answer = on_heap call })

abbrev pub of_pool : ℕ → (PoolWithLists → Asked PoolWithLists) → Option Request
of_pool k call = Some (record { part = Part.Pool k; answer = on_pool k call })

abbrev pub of_list : ℕ → (ListName → PoolWithLists → Asked PoolWithLists) → Option Request
of_list l call = Some (record { part = Part.Pool (l / 2); answer = on_list l call })

-- what a call of p asks of the memory, if it is one on memory
abbrev pub requested : Call → ℕ → Option Request
-- managed memory
requested (Call.MmemAlloc h n) p = of_managed (managed.alloc p h n)
requested (Call.MmemFree h) p = of_managed (managed.free p h)
requested (Call.MmemWrite h at chunk) p = of_managed (managed.write p h at chunk.items)
requested (Call.MmemRead h at len) p = of_managed (managed.read p h at len)
requested (Call.MmemCopy source target) p = of_managed (managed.copy p source target)
requested Call.MmemAvail p = of_managed (managed.avail p)
-- heap memory
requested (Call.HeapAlloc b n) p = of_heap (heap.alloc p b n)
requested (Call.HeapRealloc b n) p = of_heap (heap.realloc p b n)
requested (Call.HeapFree b) p = of_heap (heap.free p b)
requested (Call.HeapWrite b at chunk) p = of_heap (heap.write p b at chunk.items)
requested (Call.HeapRead b at len) p = of_heap (heap.read p b at len)
requested Call.HeapStats p = of_heap heap.stats
-- pools
requested (Call.MembAlloc k) p = of_pool k pool.alloc
requested (Call.MembFree k b) p = of_pool k (pool.free b)
requested (Call.MembWrite k b at chunk) p = of_pool k (pool.write b at chunk.items)
requested (Call.MembRead k b at len) p = of_pool k (pool.read b at len)
requested (Call.MembNumFree k) p = of_pool k pool.num_free
-- lists
requested (Call.ListAdd l b) p = of_list l (pool.add b)
requested (Call.ListPush l b) p = of_list l (pool.push b)
requested (Call.ListInsert l prev b) p = of_list l (pool.insert prev b)
requested (Call.ListPop l) p = of_list l pool.pop
requested (Call.ListChop l) p = of_list l pool.chop
requested (Call.ListRemove l b) p = of_list l (pool.remove b)
requested (Call.ListHead l) p = of_list l pool.head
requested (Call.ListNext l b) p = of_list l (pool.next b)
requested (Call.ListLength l) p = of_list l pool.count
-- the kernel executes the others
requested Call.Wait p = None
requested Call.Exit p = None
requested (Call.Post q code payload) p = None
requested (Call.Broadcast code payload) p = None
requested (Call.PostSynch q code payload) p = None
requested Call.AllocEvent p = None
requested (Call.Poll q) p = None
requested (Call.Start q) p = None
requested (Call.Kill q) p = None
requested (Call.IsRunning q) p = None
requested (Call.TimerSet t interval) p = None
requested (Call.TimerStop t) p = None
requested (Call.TimerReset t) p = None
requested (Call.TimerRestart t) p = None
requested (Call.TimerExpired t) p = None
requested (Call.CallbackSet c interval) p = None
requested (Call.CallbackStop c) p = None
requested Call.Clock p = None
requested (Call.Print chunk) p = None
requested Call.PacketOpen p = None
requested (Call.PacketRead at len) p = None
requested Call.PacketDone p = None
requested Call.PacketCount p = None
requested (Call.PacketSend h) p = None

-- the memory after a call of p, and the reply
abbrev pub ask : Call → ℕ → Memory → Asked Memory
ask call p m = option_map_or (λ request. request.answer m) (requested call p) (done m)
