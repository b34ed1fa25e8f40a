use Rattle.std.proofs.Common.{rules, sym}
use Rattle.kernel_core.proofs.FrameBlocks.{frames_after_dropped}
use Rattle.kernel_core.proofs.kernel_fields.KernelFields.drop_packet.Goals as goal

pub returns-clause-kept : goal.returns-clause-kept
returns-clause-kept c =
    let left = frames_after_dropped c.done-slot.result c.args.self.now.memory.value.contents c.drop_frame.new.self.contents
    (rw c.deref_mut.ensures.value at c.drop_frame.ensures.others)
    c.args.self.now.packets.frames c.drop_frame.ensures.gone (sym c.done-slot.ensures.slot) c.held-held.ensures.standing.distinct
    c.requires.at_turn.frames in
    rw (c.answer.ensures.kept.left.memory, c.answer.ensures.kept.left.frames, c.done-slot.ensures.value) (search rules)
