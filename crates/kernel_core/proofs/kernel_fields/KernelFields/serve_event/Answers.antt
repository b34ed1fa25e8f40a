use Rattle.kernel_core.proofs.Common.{decide}
use Rattle.kernel_core.proofs.kernel_fields.KernelFields.serve_event.Goals as goal

pub returns-in_default-eq135-clause-kept : goal.returns-in_default-eq135-clause-kept
returns-in_default-eq135-clause-kept c = λ payload. grind (decide, c.exit_one.ensures.kept payload)
