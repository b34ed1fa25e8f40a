use Rattle.std.proofs.Common.{arith}
use Rattle.modules_c.proofs.MmemRows.{table_from, row_inside, row_clear}
use Rattle.modules_c.proofs.mmem.table.lie_apart.Goals as goal

pub returns-then-not-lies_inside : goal.returns-then-not-lies_inside
returns-then-not-lies_inside c = grind (arith, row_inside, row_clear)

pub returns : goal.returns
returns c = grind (arith, table_from)
