use Rattle.std.proofs.Common.{rules}
use Rattle.kernel_core.proofs.Common.{Entry}
use Rattle.kernel_core.proofs.Reaching.{entry_comes_first}
use Rattle.kernel_core.proofs.kernel_fields.KernelFields.accept.Goals as goal

pub returns-clause-machine : goal.returns-clause-machine
returns-clause-machine c = λ choices.
    entry_comes_first (Entry.Input c.args.input.now) _ _ c.apply_input.ensures.machine (search rules)
