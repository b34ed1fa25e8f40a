use Rattle.std.proofs.Common.{rules}
use Rattle.kernel_core.proofs.kernel_fields.KernelFields.ask_pools.Goals as goal

pub returns-clause-kept : goal.returns-clause-kept
returns-clause-kept c =
    rw (c.answer.ensures.kept.left.memory, c.answer.ensures.kept.left.frames) (search rules)
