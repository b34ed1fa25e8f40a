use Rattle.mmem_core.proofs.Lemmas.{arith, block_is}
use Rattle.mmem_core.proofs.mmem.Mmem.bytes.Goals as goal

pub returns : goal.returns
returns c = grind (arith, block_is)
