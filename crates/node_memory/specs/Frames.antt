-- Frames, each held in a managed block of process 3, and the bytes that an application sends.
use Rattle.std.specs.Prelude.{length, Option, Some, None, if◌then◌else◌, nat_lt}
use Rattle.mote_types.specs.Kinds.{ProcessNumber, Handle, Bytes}
use Rattle.mote_types.specs.Limits.{packet_process, frame_limit}
use Rattle.mote_types.specs.declared.refusal.Refusal.{Refusal}
use Rattle.std.specs.Option.{option_or}
use Rattle.mmem_core.specs.ManagedStore.{ManagedStore, block_of, bytes_of, with_block, freed}
use Rattle.node_memory.specs.BlockRefusals.{live_refusal}
use Rattle.node_memory.specs.Memory.{Memory, with_managed}

abbrev pub frame_taken : Handle → Bytes → Memory → Memory
frame_taken slot bytes m = with_managed (with_block packet_process slot (Some bytes) m.managed) m

abbrev pub frame_dropped : Handle → Memory → Memory
frame_dropped slot m = with_managed (freed packet_process slot m.managed) m

abbrev pub send_refusal : ProcessNumber → Handle → ManagedStore → Option Refusal
send_refusal p h store =
    option_or (live_refusal h (block_of p h store)) (if nat_lt frame_limit (length (bytes_of p h store)) then Some Refusal.Range else None)
