use Rattle.process_core.proofs.Lemmas.{arith, numbers_seen}
use Rattle.process_core.proofs.process_list.ProcessList.walk.Goals as goal

pub returns-clause-all : goal.returns-clause-all
returns-clause-all c = grind (arith, numbers_seen c.self.invariant.kept c.self.view_is)
