-- The calls on a pool or on its lists, and the list that a block is in.
use Rattle.std.specs.Prelude.{◌≡◌, ℕ, Bool, true, false, nat_lt, Option, Some, None}
use Rattle.mote_types.specs.declared.call.Call.{Call}
use Rattle.mote_types.specs.declared.reply.Reply.{Reply}
use Rattle.node_memory.specs.Code.Ask.{ask}
use Rattle.node_memory.specs.ListedPools.{PoolWithLists}
use Rattle.node_memory.specs.Memory.{Memory, pool_in, with_pool}
use Rattle.node_memory.specs.declared.parts.Part.{Part}
use Rattle.node_memory.specs.Code.Parts.{part_called}
use Rattle.memb_core.specs.declared.list_name.ListName.{ListName}

abbrev pub pool_in_part : Option Part → Option ℕ
pool_in_part (Some (Part.Pool k)) = Some k
pool_in_part _ = None

-- the pool that a call is on, or on one of whose lists
abbrev pub pool_called : Call → Option ℕ
pool_called call = pool_in_part (part_called call)

-- a call on a pool, or on one of its lists, changes it from `old` to `new` and has this reply, in whichever memory it is pool k
abbrev pub IsAnswered : Call → PoolWithLists → PoolWithLists → Reply → Type 0
IsAnswered call old new reply =
    (k p : ℕ) (m : Memory) → nat_lt 3 k ≡ false → pool_called call ≡ Some k → pool_in k m ≡ old
    → ask call p m ≡ (with_pool k new m, reply)

-- whether the list that a block is in, if it is in one, is this one
abbrev pub is_holder : ListName → Option ListName → Bool
is_holder ListName.First (Some ListName.First) = true
is_holder ListName.Second (Some ListName.Second) = true
is_holder _ _ = false
