use Rattle.std.proofs.Common.{arith}
use Rattle.memb_core.proofs.Blocks.{all_unused}
use Rattle.modules_c.proofs.memb.toarmuts_memb_init.Goals as goal

pub returns : goal.returns
returns c usable bytes_at = grind (arith, all_unused)
