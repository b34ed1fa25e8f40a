use Rattle.memb_core.proofs.Lemmas.{arith, live_is}
use Rattle.memb_core.proofs.pool.Pool.is_live.Goals as goal

pub returns : goal.returns
returns c bytes = grind (arith, live_is)
