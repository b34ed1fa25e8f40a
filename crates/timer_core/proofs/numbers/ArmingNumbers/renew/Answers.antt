use Rattle.timer_core.proofs.Lemmas.{arith, get_or-set_other}
use Rattle.timer_core.proofs.numbers.ArmingNumbers.renew.Goals as goal

pub returns-clause-others : goal.returns-clause-others
returns-clause-others c = grind (arith, get_or-set_other)
