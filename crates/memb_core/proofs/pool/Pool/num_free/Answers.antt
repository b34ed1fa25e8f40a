use Rattle.memb_core.proofs.Lemmas.{arith, unused_count_is}
use Rattle.memb_core.proofs.pool.Pool.num_free.Goals as goal

pub returns : goal.returns
returns c bytes = grind (arith, unused_count_is)
