use Rattle.kernel_core.proofs.FrameBlocks.{front_is_live}
use Rattle.kernel_core.proofs.kernel_fields.KernelFields.read_packet.Goals as goal

pub frame_bytes-bytes-requires-clause-held : goal.frame_bytes-bytes-requires-clause-held
frame_bytes-bytes-requires-clause-held c =
    rw c.deref.ensures (front_is_live c.args.self.now.memory.value.contents c.args.self.now.packets.frames c.in-Ok.slot
    c.requires.at_turn.frames c.in-Ok.ensures.within c.in-Ok.ensures.held.1)
