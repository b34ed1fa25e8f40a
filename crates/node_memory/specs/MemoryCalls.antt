-- How calls on a part of a node's memory change the whole.
use Rattle.std.specs.Prelude.{ℕ, ◌/◌, if◌then◌else◌, nat_lt}
use Rattle.mote_types.specs.Limits.{last_pool}
use Rattle.mote_types.specs.declared.reply.Reply.{Reply}
use Rattle.mote_types.specs.declared.refusal.Refusal.{Refusal}
use Rattle.mmem_core.specs.ManagedStore.{ManagedStore}
use Rattle.heap_core.specs.HeapStore.{HeapStore}
use Rattle.memb_core.specs.declared.list_name.ListName.{ListName}
use Rattle.node_memory.specs.Memory.{Memory, with_managed, with_heap, pool_in, with_pool}
use Rattle.node_memory.specs.ListedPools.{PoolWithLists, list_named}
use Rattle.node_memory.specs.Answered.{Asked}

abbrev pub on_managed : (ManagedStore → Asked ManagedStore) → Memory → Asked Memory
on_managed call m = let asked = call m.managed in (with_managed asked.0 m, asked.1)

abbrev pub on_heap : (HeapStore → Asked HeapStore) → Memory → Asked Memory
on_heap call m = let asked = call m.heap in (with_heap asked.0 m, asked.1)

abbrev pub on_pool : ℕ → (PoolWithLists → Asked PoolWithLists) → Memory → Asked Memory
on_pool k call m =
    if nat_lt last_pool k then (m, Reply.Refused Refusal.BadName)
    else let asked = call (pool_in k m) in (with_pool k asked.0 m, asked.1)

abbrev pub on_list : ℕ → (ListName → PoolWithLists → Asked PoolWithLists) → Memory → Asked Memory
on_list l call = on_pool (l / 2) (call (list_named l))
