use Rattle.std.proofs.Common.{arith}
use Rattle.modules_c.proofs.HeapmemResizes.{set_is, own_free, moved_is, moved_table, length-resized}
use Rattle.modules_c.proofs.HeapmemTables.{row_lies}
use Rattle.modules_c.proofs.heapmem.block.resize.Goals as goal

pub carry-requires-clause-source : goal.carry-requires-clause-source
carry-requires-clause-source c = grind (arith, row_lies)

pub carry-requires-clause-target : goal.carry-requires-clause-target
carry-requires-clause-target c = grind (arith, row_lies)

pub returns-clause-heap : goal.returns-clause-heap
returns-clause-heap c = grind (arith, set_is, moved_is, length-resized, own_free)

pub returns-clause-table : goal.returns-clause-table
returns-clause-table c = grind (arith, set_is, moved_table, length-resized, own_free)
