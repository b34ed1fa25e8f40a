use Rattle.memb_core.proofs.Lemmas.{arith, used_below, live_is, live_below, block_is, bytes_read}
use Rattle.memb_core.proofs.pool.Pool.bytes.Goals as goal

pub usable_span-requires : goal.usable_span-requires
usable_span-requires c = grind (arith, live_below)

pub returns : goal.returns
returns c = grind (arith, live_is, used_below, block_is, bytes_read)
