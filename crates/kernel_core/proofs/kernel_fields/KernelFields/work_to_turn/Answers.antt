use Rattle.kernel_core.proofs.Reaching.{worked_apart}
use Rattle.kernel_core.proofs.kernel_fields.KernelFields.work_to_turn.Goals as goal

pub returns-in_default : goal.returns-in_default
returns-in_default c = worked_apart _ _ _ c.in_default.not-Turn c.work_on-outcome.ensures
