-- Process 3 (packet), which announces frames to the receiver.
use Rattle.std.specs.Prelude.{Bool, ◌&&◌, Option, Some, None, is_some, if◌then◌else◌, ◌==◌}
use Rattle.mote_types.specs.Kinds.{ProcessNumber}
use Rattle.mote_types.specs.Limits.{packet_process}
use Rattle.mote_types.specs.declared.event.Event.{Event}
use Rattle.mote_types.specs.EventNumbers.{POLL, EXITED, PACKET}
use Rattle.mote_types.specs.Codes.{number_event}
use Rattle.device_core.specs.declared.frame.Frame.{Frame}
use Rattle.device_core.specs.PacketQueue.{PacketQueue, unannounced, with_announced, forgotten}
use Rattle.process_core.specs.Agenda.{Queued}
use Rattle.kernel_core.specs.Machine.{Machine, with_packets, with_event, free_places, mark}
use Rattle.kernel_core.specs.Repeating.{times}
use Rattle.kernel_core.specs.TimerProcesses.{exited_application}

abbrev pub announce_to : Option ProcessNumber → Option Frame → Machine → Machine
announce_to (Some receiver) (Some frame) m =
    with_event (Queued.To receiver (number_event PACKET frame.len)) (with_packets (with_announced m.packets) m)
announce_to _ _ m = m

abbrev pub announce_next : Machine → Machine
announce_next m = announce_to m.packets.receiver (unannounced m.packets) m

abbrev pub has_news : PacketQueue → Bool
has_news queue = is_some queue.receiver && is_some (unannounced queue)

-- For each free slot of the queue the next frame is announced. If a frame is left, process 3 is polled again
abbrev pub announce : Machine → Machine
announce m =
    let after = times (free_places m) announce_next m in
    if has_news after.packets then mark packet_process after else after

abbrev pub forget_receiver : Option ProcessNumber → Machine → Machine
forget_receiver None m = m
forget_receiver (Some p) m = with_packets (forgotten p m.packets) m

abbrev pub packet : Event → Machine → Machine
packet event m =
    if event.code == POLL then announce m
    else if event.code == EXITED then forget_receiver (exited_application event.payload) m
    else m
