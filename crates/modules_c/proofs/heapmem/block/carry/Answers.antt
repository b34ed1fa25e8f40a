use Rattle.std.proofs.Common.{arith}
use Rattle.std.proofs.lemmas.List.{length-replicate}
use Rattle.arena_core.proofs.Ranges.{length-range}
use Rattle.heap_core.proofs.Resized.{resized_copy}
use Rattle.modules_c.proofs.HeapmemResizes.{written_behind}
use Rattle.modules_c.proofs.heapmem.block.carry.Goals as goal

pub returns : goal.returns
returns c = grind (arith, length-range, length-replicate, written_behind, resized_copy)
