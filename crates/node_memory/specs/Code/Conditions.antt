-- What a call on memory requires of its caller, and what a refused one leaves.
use Rattle.std.specs.Prelude.{◌≤◌, Option, Bool, is_some}
use Rattle.mote_types.specs.Kinds.{ProcessNumber, Handle, Bytes}
use Rattle.mote_types.specs.Limits.{packet_process, last_application}
use Rattle.mote_types.specs.declared.call.Call.{Call}
use Rattle.mote_types.specs.declared.reply.Reply.{Reply}
use Rattle.mmem_core.specs.ManagedStore.{block_of}
use Rattle.node_memory.specs.Memory.{Memory}
use Rattle.node_memory.specs.Code.Parts.{part_called}

-- the processes that may make a call: the applications, and process 3
abbrev pub MayAsk : ProcessNumber → Type 0
MayAsk p = (packet_process ≤ p) × (p ≤ last_application)

-- where the reply is a refusal
abbrev pub IfRefused : Reply → Type 0 → Type 0
IfRefused (Reply.Refused refusal) fact = fact
IfRefused _ fact = Unit {0}

-- the bytes of the frame in that slot, if it holds one
abbrev pub frame_in : Handle → Memory → Option Bytes
frame_in slot m = block_of packet_process slot m.managed

abbrev pub is_memory_call : Call → Bool
is_memory_call call = is_some (part_called call)
