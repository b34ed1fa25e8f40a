use Rattle.std.proofs.Common.{refl}
use Rattle.kernel_core.proofs.kernel_fields.KernelFields.is_any_due.Goals as goal

pub returns-clause-kept : goal.returns-clause-kept
returns-clause-kept c = rw (c.any_due.ensures.kept, c.deref_mut.ensures.value) refl
