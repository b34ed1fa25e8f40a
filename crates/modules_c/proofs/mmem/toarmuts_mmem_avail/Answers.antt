use Rattle.std.proofs.Common.{arith}
use Rattle.modules_c.proofs.MmemStores.{unused_left}
use Rattle.modules_c.proofs.mmem.toarmuts_mmem_avail.Goals as goal

pub returns-then-lie_apart-clause-table : goal.returns-then-lie_apart-clause-table
returns-then-lie_apart-clause-table c buffer size sound = grind (arith, unused_left)
