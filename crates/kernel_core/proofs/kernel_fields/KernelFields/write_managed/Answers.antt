use Rattle.std.proofs.Common.{rules}
use Rattle.kernel_core.proofs.kernel_fields.KernelFields.write_managed.Goals as goal

pub returns-clause-kept : goal.returns-clause-kept
returns-clause-kept c =
    rw (c.tell.ensures.kept.left.memory, c.tell.ensures.kept.left.frames) (search rules)
