use Rattle.device_core.proofs.Slots.{well_formed_at_first}
use Rattle.device_core.proofs.packet_queue.PacketQueue.new.Goals as goal

pub invariant_of-result : goal.invariant_of-result
invariant_of-result c = rw c.new.ensures well_formed_at_first
