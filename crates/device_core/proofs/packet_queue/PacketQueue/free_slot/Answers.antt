use Rattle.std.proofs.Common.{sym, ◌∙◌}
use Rattle.device_core.proofs.Slots.{free_slot_from_more}
use Rattle.device_core.proofs.packet_queue.PacketQueue.free_slot.Goals as goal

pub loop-slot-preserved : goal.loop-slot-preserved
loop-slot-preserved c = free_slot_from_more c.args.self.now c.loop-slot.slot c.loop-slot-test.true (sym c.if-not-is_held.ensures)
    ∙ c.loop-slot.invariant
