use Rattle.process_core.proofs.Lemmas.{numbers_seen}
use Rattle.process_core.proofs.process_list.ProcessList.each_is_once.Goals as goal

pub returns : goal.returns
returns c = rw (numbers_seen c.self.invariant.kept c.self.view_is) c.self.invariant.kept.distinct
