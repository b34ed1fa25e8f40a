-- The calls on a pool and on its lists: when each is refused, and otherwise its effect.
use Rattle.std.specs.Prelude.{ℕ, not, ◌||◌, length, Option, Some, None, if◌then◌else◌, ◌==◌}
use Rattle.std.specs.Option.{option_or}
use Rattle.mote_types.specs.Kinds.{BlockNumber, Offset, Bytes}
use Rattle.mote_types.specs.Bytes.{range_of}
use Rattle.mote_types.specs.declared.reply.Reply.{Reply}
use Rattle.mote_types.specs.declared.refusal.Refusal.{Refusal}
use Rattle.memb_core.specs.declared.list_name.ListName.{ListName}
use Rattle.memb_core.specs.BlockPool.{block_of, first_unused, unused_count, allocated, freed, bytes_of, with_bytes}
use Rattle.memb_core.specs.BlockLists.{has_number, without, head_of, tail_of, next_of, added, pushed, inserted, popped, chopped}
use Rattle.node_memory.specs.ListedPools.{PoolWithLists, list_in, other_list, with_list, with_blocks, is_linked}
use Rattle.node_memory.specs.BlockRefusals as block
use Rattle.node_memory.specs.BlockRefusals.{is_name}
use Rattle.node_memory.specs.Answered.{Asked, unless_refused, done, bytes_read}

abbrev pub free_refusal : BlockNumber → PoolWithLists → Option Refusal
free_refusal b s = option_or (block.live_refusal b (block_of b s.pool)) (if is_linked b s then Some Refusal.Linked else None)

abbrev pub link_refusal : ListName → BlockNumber → PoolWithLists → Option Refusal
link_refusal name b s =
    option_or (block.live_refusal b (block_of b s.pool))
    (if has_number b (list_in (other_list name) s) then Some Refusal.Linked else None)

abbrev pub insert_refusal : ListName → BlockNumber → BlockNumber → PoolWithLists → Option Refusal
insert_refusal name prev b s =
    if not (is_name prev) then Some Refusal.BadName
    else option_or (link_refusal name b s)
    (if not (has_number prev (list_in name s)) || prev == b then Some Refusal.NotLinked else None)

abbrev pub member_refusal : ListName → BlockNumber → PoolWithLists → Option Refusal
member_refusal name b s =
    if not (is_name b) then Some Refusal.BadName
    else if not (has_number b (list_in name s)) then Some Refusal.NotLinked
    else None

abbrev pub number_or : Refusal → Option BlockNumber → (BlockNumber → PoolWithLists) → PoolWithLists → Asked PoolWithLists
number_or refusal None after s = (s, Reply.Refused refusal)
number_or refusal (Some n) after s = (after n, Reply.Num n)

abbrev pub alloc : PoolWithLists → Asked PoolWithLists
alloc s = number_or Refusal.NoBlock (first_unused s.pool) (λ b. with_blocks (allocated b s.pool) s) s

abbrev pub free : BlockNumber → PoolWithLists → Asked PoolWithLists
free b s = unless_refused (free_refusal b s) s (done (with_blocks (freed b s.pool) s))

abbrev pub write : BlockNumber → Offset → Bytes → PoolWithLists → Asked PoolWithLists
write b at bytes s =
    unless_refused (block.write_refusal b at (length bytes) (block_of b s.pool)) s (done (with_blocks (with_bytes b at bytes s.pool) s))

abbrev pub read : BlockNumber → Offset → ℕ → PoolWithLists → Asked PoolWithLists
read b at len s = unless_refused (block.read_refusal b at len (block_of b s.pool)) s (bytes_read (range_of at len (bytes_of b s.pool)) s)

abbrev pub num_free : PoolWithLists → Asked PoolWithLists
num_free s = (s, Reply.Num (unused_count s.pool))

abbrev pub add : BlockNumber → ListName → PoolWithLists → Asked PoolWithLists
add b name s = unless_refused (link_refusal name b s) s (done (with_list name (added b (list_in name s)) s))

abbrev pub push : BlockNumber → ListName → PoolWithLists → Asked PoolWithLists
push b name s = unless_refused (link_refusal name b s) s (done (with_list name (pushed b (list_in name s)) s))

abbrev pub insert : BlockNumber → BlockNumber → ListName → PoolWithLists → Asked PoolWithLists
insert prev b name s = unless_refused (insert_refusal name prev b s) s (done (with_list name (inserted prev b (list_in name s)) s))

abbrev pub pop : ListName → PoolWithLists → Asked PoolWithLists
pop name s = number_or Refusal.Empty (head_of (list_in name s)) (λ b. with_list name (popped (list_in name s)) s) s

abbrev pub chop : ListName → PoolWithLists → Asked PoolWithLists
chop name s = number_or Refusal.Empty (tail_of (list_in name s)) (λ b. with_list name (chopped (list_in name s)) s) s

abbrev pub remove : BlockNumber → ListName → PoolWithLists → Asked PoolWithLists
remove b name s = unless_refused (member_refusal name b s) s (done (with_list name (without b (list_in name s)) s))

abbrev pub head : ListName → PoolWithLists → Asked PoolWithLists
head name s = number_or Refusal.Empty (head_of (list_in name s)) (λ b. s) s

abbrev pub next : BlockNumber → ListName → PoolWithLists → Asked PoolWithLists
next b name s = unless_refused (member_refusal name b s) s (number_or Refusal.Empty (next_of b (list_in name s)) (λ n. s) s)

abbrev pub count : ListName → PoolWithLists → Asked PoolWithLists
count name s = (s, Reply.Num (length (list_in name s)))
