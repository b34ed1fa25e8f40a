use Rattle.memb_core.proofs.Lemmas.{subst, FillsSpan, lie_apart}
use Rattle.memb_core.proofs.pool.Pool.blocks_lie_apart.Goals as goal

pub returns : goal.returns
returns c bytes within = lie_apart c.args.self.now (subst FillsSpan c.self.view_is c.self.invariant) bytes within
