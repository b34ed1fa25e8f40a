use Rattle.std.proofs.Common.{arith, below_more}
use Rattle.mmem_core.proofs.PlaceLemmas.{last_le}
use Rattle.modules_c.specs.Mmem.Stored.{places_told}
use Rattle.modules_c.proofs.MmemRows.{table_lies, row_le_last, last_le_rows}
use Rattle.modules_c.proofs.mmem.table.end_of_last.Goals as goal
use Rattle.modules_c.proofs.mmem.table.end_of_last.Goals.{else-end-here}

pub loop-block-preserved : goal.loop-block-preserved
loop-block-preserved c = grind (arith, row_le_last, below_more, else-end-here)

pub returns-clause-end : goal.returns-clause-end
returns-clause-end c = grind (arith, last_le_rows)

pub returns-clause-inside : goal.returns-clause-inside
returns-clause-inside c =
    omega (arith, last_le (places_told c.args.blocks.now) c.args.capacity (table_lies c.args.blocks.now c.args.capacity c.requires).inside)
