use Rattle.std.proofs.Common.{arith}
use Rattle.modules_c.proofs.HeapmemEdits.{free_inside}
use Rattle.modules_c.proofs.heapmem.block.alloc.Goals as goal

pub put-requires-clause-small : goal.put-requires-clause-small
put-requires-clause-small c = grind (arith, free_inside)
