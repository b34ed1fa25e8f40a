use Rattle.memb_core.proofs.Lemmas.{arith, link_read}
use Rattle.memb_core.proofs.pool.Pool.link.Goals as goal

pub block_named-requires : goal.block_named-requires
block_named-requires c = grind (arith, link_read)

pub returns : goal.returns
returns c = grind (arith, link_read)
