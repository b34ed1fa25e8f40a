-- The calls on heap memory: when each is refused, and otherwise its effect. The caller is p.
use Rattle.std.specs.Prelude.{ℕ, [], length, Option, Some, None, unwrap_or}
use Rattle.mote_types.specs.Kinds.{ProcessNumber, Handle, Offset, Bytes}
use Rattle.mote_types.specs.Bytes.{range_of}
use Rattle.mote_types.specs.declared.reply.Reply.{Reply}
use Rattle.mote_types.specs.declared.refusal.Refusal.{Refusal}
use Rattle.heap_core.specs.HeapStore.{HeapStore, block_of, allocated, reallocated, freed, with_bytes, stats_of}
use Rattle.node_memory.specs.Answered.{Asked, unless_refused, done, bytes_read}
use Rattle.node_memory.specs.BlockRefusals.{alloc_refusal, realloc_refusal, live_refusal, write_refusal, read_refusal}

abbrev pub done_or_no_room : Option HeapStore → HeapStore → Asked HeapStore
done_or_no_room None heap = (heap, Reply.Refused Refusal.NoRoom)
done_or_no_room (Some after) heap = done after

abbrev pub alloc : ProcessNumber → Handle → ℕ → HeapStore → Asked HeapStore
alloc p b n heap = unless_refused (alloc_refusal b n (block_of p b heap)) heap (done_or_no_room (allocated p b n heap) heap)

abbrev pub realloc : ProcessNumber → Handle → ℕ → HeapStore → Asked HeapStore
realloc p b n heap = unless_refused (realloc_refusal b n (block_of p b heap)) heap (done_or_no_room (reallocated p b n heap) heap)

abbrev pub free : ProcessNumber → Handle → HeapStore → Asked HeapStore
free p b heap = unless_refused (live_refusal b (block_of p b heap)) heap (done (freed p b heap))

abbrev pub write : ProcessNumber → Handle → Offset → Bytes → HeapStore → Asked HeapStore
write p b at bytes heap = unless_refused (write_refusal b at (length bytes) (block_of p b heap)) heap (done (with_bytes p b at bytes heap))

abbrev pub read : ProcessNumber → Handle → Offset → ℕ → HeapStore → Asked HeapStore
read p b at len heap =
    unless_refused (read_refusal b at len (block_of p b heap)) heap (bytes_read (range_of at len (unwrap_or (block_of p b heap) [])) heap)

abbrev pub stats : HeapStore → Asked HeapStore
stats heap = (heap, Reply.Stats (stats_of heap))
