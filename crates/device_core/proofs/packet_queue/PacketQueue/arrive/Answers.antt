use Rattle.std.proofs.Common.{arith, sym, ◌∙◌}
use Rattle.device_core.specs.Code.PacketFields.{packets_of}
use Rattle.device_core.proofs.Slots.{room_where_free, unused_where_free, full_where_none_free, well_formed_with_frame}
use Rattle.device_core.proofs.packet_queue.PacketQueue.arrive.Goals as goal

pub returns-in_err-slot-clause-refused : goal.returns-in_err-slot-clause-refused
returns-in_err-slot-clause-refused c = grind (arith, full_where_none_free)

pub push-requires : goal.push-requires
push-requires c = grind (arith, room_where_free)

pub invariant_of-self : goal.invariant_of-self
invariant_of-self c =
    let q = c.self.inside in
    rw c.push.ensures.items (well_formed_with_frame
    (packets_of q.frames.items q.announced q.receiver) c.in_ok-slot.slot c.args.len c.self.invariant (grind arith))

pub returns-clause-refused : goal.returns-clause-refused
returns-clause-refused c = grind (arith, room_where_free)

pub returns-clause-unused : goal.returns-clause-unused
returns-clause-unused c = unused_where_free c.args.self.now c.in_ok-slot.slot (sym c.free_slot.ensures ∙ c.in_ok-slot.was)
