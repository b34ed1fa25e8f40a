-- The calls on packets: their refusals in the order in which they are checked, and their effects. The caller is p.
use Rattle.std.specs.Prelude.{ℕ, not, ◌||◌, [], Option, Some, None, is_some, is_none, if◌then◌else◌, nat_lt}
use Rattle.std.specs.Option.{option_map_or, option_or}
use Rattle.mote_types.specs.Kinds.{ProcessNumber, Handle, Offset, Bytes}
use Rattle.mote_types.specs.Limits.{packet_process, chunk_limit}
use Rattle.mote_types.specs.Bytes.{is_within, range_of}
use Rattle.mote_types.specs.declared.entry.Entry.{Entry}
use Rattle.mote_types.specs.declared.entry.Note.{Note}
use Rattle.mote_types.specs.declared.refusal.Refusal.{Refusal}
use Rattle.mote_types.specs.declared.reply.Reply.{Reply}
use Rattle.device_core.specs.PacketQueue.{front_slot, is_receiver, without_front}
use Rattle.mmem_core.specs.ManagedStore.{bytes_of}
use Rattle.node_memory.specs.Frames.{frame_dropped}
use Rattle.process_core.specs.Processes.{is_ending}
use Rattle.process_core.specs.Scheduler.{state_in}
use Rattle.kernel_core.specs.Machine.{Machine, with_memory, with_packets}

-- there is one receiver at a time, and a process that gets EXIT doesn't become one
abbrev pub open_refusal : ProcessNumber → Machine → Option Refusal
open_refusal p m =
    if is_ending (state_in m.scheduler p) then Some Refusal.NotRunning
    else if is_receiver m.packets p then Some Refusal.Already
    else if is_some m.packets.receiver then Some Refusal.Busy
    else None

abbrev pub front_bytes : Machine → Bytes
front_bytes m = option_map_or (λ slot. bytes_of packet_process slot m.memory.managed) (front_slot m.packets) []

abbrev pub front_refusal : ProcessNumber → Machine → Option Refusal
front_refusal p m =
    if not (is_receiver m.packets p) then Some Refusal.NotReceiver
    else if is_none (front_slot m.packets) then Some Refusal.NoPacket
    else None

abbrev pub front_read_refusal : ProcessNumber → Offset → ℕ → Machine → Option Refusal
front_read_refusal p at len m = option_or (front_refusal p m)
    (if nat_lt chunk_limit len || not (is_within at len (front_bytes m)) then Some Refusal.Range else None)

abbrev pub front_read : Offset → ℕ → Machine → Reply
front_read at len m = Reply.Bytes (record { items = range_of at len (front_bytes m) })

abbrev pub front_dropped : Option Handle → Machine → Machine
front_dropped None m = m
front_dropped (Some slot) m = with_memory (frame_dropped slot m.memory) (with_packets (without_front m.packets) m)

abbrev pub sent : ProcessNumber → Handle → Machine → Entry
sent p h m = Entry.Note (Note.Sent (record { items = bytes_of p h m.memory.managed }))
