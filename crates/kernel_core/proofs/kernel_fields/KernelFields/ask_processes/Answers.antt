use Rattle.std.proofs.Common.{rules}
use Rattle.kernel_core.proofs.Drawing.{ended-draws}
use Rattle.kernel_core.proofs.kernel_fields.KernelFields.ask_processes.Goals as goal

pub returns-in-Exit-clause-kept : goal.returns-in-Exit-clause-kept
returns-in-Exit-clause-kept c =
    let few = ended-draws c.args.pid.0 c.args.self.now.scheduler.state c.requires.at_turn.distinct in rw c.ended.ensures (search rules)
