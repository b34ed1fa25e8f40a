use Rattle.std.proofs.Common.{◌≡◌}
use Rattle.device_core.proofs.Common.{free_slot}
use Rattle.device_core.proofs.Slots.{free_slot_from}
use Rattle.device_core.proofs.packet_queue.PacketQueue.free_slot.Given as goal

-- the slots so far are held
abbrev pub invariant-loop-slot : goal.invariant-loop-slot
invariant-loop-slot l = free_slot_from l.slot l.self ≡ free_slot l.self
