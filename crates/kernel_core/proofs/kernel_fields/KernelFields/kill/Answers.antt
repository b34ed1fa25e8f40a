use Rattle.std.proofs.Common.{rules}
use Rattle.kernel_core.proofs.Drawing.{killed_by-draws}
use Rattle.kernel_core.proofs.kernel_fields.KernelFields.kill.Goals as goal

pub returns-in-Ok-clause-kept : goal.returns-in-Ok-clause-kept
returns-in-Ok-clause-kept c =
    let few = killed_by-draws c.args.pid.0 c.args.process c.args.self.now.scheduler.state c.requires.at_turn.distinct in
    rw c.in-Ok.ensures.accepted.1 (search rules)
