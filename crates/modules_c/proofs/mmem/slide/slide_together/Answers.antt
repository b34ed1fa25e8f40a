use Rattle.std.proofs.Common.{arith}
use Rattle.mmem_core.proofs.PlaceLemmas.{last_le}
use Rattle.modules_c.proofs.MmemMidway.{midway_first, next_inside, midway_more, end_is}
use Rattle.modules_c.proofs.mmem.slide.slide_together.Goals as goal

pub copy-requires-clause-source : goal.copy-requires-clause-source
copy-requires-clause-source c = grind (arith, next_inside)

pub copy-requires-clause-target : goal.copy-requires-clause-target
copy-requires-clause-target c = grind (arith, next_inside)

pub rounded-end-requires : goal.rounded-end-requires
rounded-end-requires c = grind arith

pub overflow_add-end : goal.overflow_add-end
overflow_add-end c = grind arith

pub loop-number-smaller : goal.loop-number-smaller
loop-number-smaller c = grind (arith, next_inside)

pub loop-number-preserved : goal.loop-number-preserved
loop-number-preserved c =
    rw (c.copy.ensures, c.rounded-end.ensures)
    (midway_more c.loop-number.invariant c.in-Some.number c.in-Some.ensures)

pub returns-clause-end : goal.returns-clause-end
returns-clause-end c = grind (arith, end_is)

pub returns-clause-inside : goal.returns-clause-inside
returns-clause-inside c = grind (arith, end_is, last_le)

pub returns-clause-table : goal.returns-clause-table
returns-clause-table c = grind arith

pub loop-number-init : goal.loop-number-init
loop-number-init c = midway_first c.args.blocks.now c.args.buffer.now c.requires
