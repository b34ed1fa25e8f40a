use Rattle.device_core.proofs.Common.{option_map, receiver_number}
use Rattle.device_core.proofs.Slots.{well_formed_without_front}
use Rattle.device_core.proofs.packet_queue.PacketQueue.done.Goals as goal

pub invariant_of-self : goal.invariant_of-self
invariant_of-self c =
    let q = c.self.inside in
    rw (c.remove-frame.ensures.items, c.saturating_sub-self-inside.ensures)
    (well_formed_without_front q.frames.items q.announced (option_map receiver_number q.receiver) c.self.invariant)
