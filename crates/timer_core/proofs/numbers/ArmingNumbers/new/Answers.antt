use Rattle.timer_core.proofs.Lemmas.{numbered_at_boot}
use Rattle.timer_core.proofs.numbers.ArmingNumbers.new.Goals as goal

pub invariant_of-result : goal.invariant_of-result
invariant_of-result c = numbered_at_boot
