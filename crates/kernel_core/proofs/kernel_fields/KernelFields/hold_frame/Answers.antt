use Rattle.std.proofs.Common.{rules}
use Rattle.kernel_core.proofs.FrameBlocks.{frames_after_taken}
use Rattle.kernel_core.proofs.kernel_fields.KernelFields.hold_frame.Goals as goal

pub returns-clause-kept : goal.returns-clause-kept
returns-clause-kept c = record {
  work = search rules;
  halted = search rules;
  inputs = search rules;
  applications = search rules;
  mote = search rules;
  timers = search rules;
  turn = search rules;
  events = search rules;
  agenda = search rules;
  owners = rw c.deref_mut.ensures.value at c.take_frame.ensures.owners;
  frames =
      rw c.in-Some.ensures.held
      (frames_after_taken c.in-Some.slot c.args.self.now.memory.value.contents c.take_frame.new.self.contents
      (rw c.deref_mut.ensures.value at c.take_frame.ensures.others)
      _ c.args.bytes.now
      c.args.self.now.packets.frames c.in_ok-take_frame.ensures.held c.requires.frames);
}
