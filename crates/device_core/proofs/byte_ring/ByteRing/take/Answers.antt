use Rattle.std.proofs.Common.{arith}
use Rattle.device_core.proofs.Lines.{keep_last_all}
use Rattle.device_core.proofs.byte_ring.ByteRing.take.Goals as goal

pub returns-then-not-self : goal.returns-then-not-self
returns-then-not-self c = grind (arith, keep_last_all)
