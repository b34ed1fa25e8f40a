use Rattle.heap_core.proofs.Lemmas.{arith, cleared}
use Rattle.heap_core.proofs.region.Region.clear_away.Goals as goal

pub leave-requires : goal.leave-requires
leave-requires c = grind arith

pub returns : goal.returns
returns c = grind (arith, cleared)
