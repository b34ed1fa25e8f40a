use Rattle.mmem_core.proofs.Lemmas.{seen_apart, blocks_apart}
use Rattle.mmem_core.proofs.mmem.Mmem.blocks_lie_apart.Goals as goal

pub returns : goal.returns
returns c bytes within = blocks_apart c.args.self.now (seen_apart c.self.view_is c.self.invariant.1) bytes within
