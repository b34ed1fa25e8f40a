-- The calls on managed memory: when each is refused, and otherwise its effect. The caller is p.
use Rattle.std.specs.Prelude.{ℕ, not, ◌||◌, length, Option, Some, None, is_some, if◌then◌else◌, nat_lt}
use Rattle.std.specs.Option.{option_or}
use Rattle.mote_types.specs.Kinds.{ProcessNumber, Handle, Offset, Bytes}
use Rattle.mote_types.specs.Bytes.{range_of}
use Rattle.mote_types.specs.declared.reply.Reply.{Reply}
use Rattle.mote_types.specs.declared.refusal.Refusal.{Refusal}
use Rattle.mmem_core.specs.ManagedStore as managed_store
use Rattle.mmem_core.specs.ManagedStore.{ManagedStore, block_of, bytes_of, allocated, freed, with_bytes, copied, fits, shortage}
use Rattle.node_memory.specs.Answered.{Asked, unless_refused, done, bytes_read}
use Rattle.node_memory.specs.BlockRefusals as block
use Rattle.node_memory.specs.BlockRefusals.{is_name}

abbrev pub alloc_refusal : ProcessNumber → Handle → ℕ → ManagedStore → Option Refusal
alloc_refusal p h n store =
    option_or (block.alloc_refusal h n (block_of p h store)) (if fits p n store then None else Some (shortage store))

abbrev pub copy_refusal : ProcessNumber → Handle → Handle → ManagedStore → Option Refusal
copy_refusal p source target store =
    if not (is_name source) || not (is_name target) then Some Refusal.BadName
    else if not (is_some (block_of p source store)) || not (is_some (block_of p target store)) then Some Refusal.NotLive
    else if nat_lt (length (bytes_of p target store)) (length (bytes_of p source store)) then Some Refusal.Range
    else None

abbrev pub alloc : ProcessNumber → Handle → ℕ → ManagedStore → Asked ManagedStore
alloc p h n store = unless_refused (alloc_refusal p h n store) store (done (allocated p h n store))

abbrev pub free : ProcessNumber → Handle → ManagedStore → Asked ManagedStore
free p h store = unless_refused (block.live_refusal h (block_of p h store)) store (done (freed p h store))

abbrev pub write : ProcessNumber → Handle → Offset → Bytes → ManagedStore → Asked ManagedStore
write p h at bytes store =
    unless_refused (block.write_refusal h at (length bytes) (block_of p h store)) store (done (with_bytes p h at bytes store))

abbrev pub read : ProcessNumber → Handle → Offset → ℕ → ManagedStore → Asked ManagedStore
read p h at len store =
    unless_refused (block.read_refusal h at len (block_of p h store)) store (bytes_read (range_of at len (bytes_of p h store)) store)

abbrev pub copy : ProcessNumber → Handle → Handle → ManagedStore → Asked ManagedStore
copy p source target store = unless_refused (copy_refusal p source target store) store (done (copied p source p target store))

abbrev pub avail : ProcessNumber → ManagedStore → Asked ManagedStore
avail p store = (store, Reply.Num (managed_store.free p store))
