use Rattle.timer_core.proofs.Lemmas.{arith}
use Rattle.timer_core.proofs.numbers.ArmingNumbers.renew_all.Goals as goal

pub loop-number-preserved : goal.loop-number-preserved
loop-number-preserved c =
    grind arith
