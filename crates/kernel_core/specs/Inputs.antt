-- What an input does to the mote.
use Rattle.std.specs.Prelude.{ℕ, ◌+◌, not, length, Option, Some, None, if◌then◌else◌}
use Rattle.mote_types.specs.Kinds.{Handle, Bytes, Ticks}
use Rattle.mote_types.specs.Limits.{etimer_process, serial_line_process, packet_process}
use Rattle.mote_types.specs.declared.entry.Entry.{Entry}
use Rattle.mote_types.specs.declared.entry.Input.{Input}
use Rattle.mote_types.specs.declared.entry.Note.{Note}
use Rattle.mote_types.specs.declared.refusal.Refusal.{Refusal}
use Rattle.device_core.specs.PacketQueue.{is_full, free_slot, with_frame}
use Rattle.device_core.specs.SerialLine.{after_bytes}
use Rattle.mmem_core.specs.ManagedStore.{fits, shortage}
use Rattle.node_memory.specs.Frames.{frame_taken}
use Rattle.kernel_core.specs.Machine.{Machine, with_memory, with_packets, with_serial, mark, shown_first}

-- The clock advances, and etimer will look for due timers.
abbrev pub ticked : Ticks → Machine → Machine
ticked n m = mark etimer_process (record m { clock = m.clock + n })

-- a frame of n bytes is lost if the packet queue is full, or if managed memory or process 3's quota has no room for it
abbrev pub frame_refusal : ℕ → Machine → Option Refusal
frame_refusal len m =
    if is_full m.packets then Some Refusal.Full
    else if not (fits packet_process len m.memory.managed) then Some (shortage m.memory.managed)
    else None

-- the frame is held under this slot, its bytes are in a block of process 3, and process 3 will notify the receiver
abbrev pub frame_held : Option Handle → Bytes → Machine → Machine
frame_held None bytes m = m
frame_held (Some slot) bytes m =
    mark packet_process
    (with_memory (frame_taken slot bytes m.memory) (with_packets (with_frame slot (length bytes) m.packets) m))

-- a note says why a frame is lost
abbrev pub held_unless_lost : Option Refusal → Bytes → Machine → Machine
held_unless_lost (Some refusal) bytes m = shown_first (Entry.Note (Note.Lost refusal)) m
held_unless_lost None bytes m = frame_held (free_slot m.packets) bytes m

abbrev pub frame_arrived : Bytes → Machine → Machine
frame_arrived bytes m = held_unless_lost (frame_refusal (length bytes) m) bytes m

-- what an input does to the machine before any pending work is executed
abbrev pub effect : Input → Machine → Machine
effect (Input.Tick n) m = ticked n m
-- all bytes go into the ring at once; process 2 will empty it
effect (Input.Serial bytes) m = mark serial_line_process (with_serial (after_bytes m.serial bytes.items) m)
effect (Input.Frame bytes) m = frame_arrived bytes.items m

-- the input is submitted: its entry is first, and the work counts from 0 again
abbrev pub fed : Input → Machine → Machine
fed input m = shown_first (Entry.Input input) (effect input (record m { work = 0 }))
