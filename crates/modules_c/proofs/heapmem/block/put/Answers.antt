use Rattle.std.proofs.Common.{length, arith}
use Rattle.std.proofs.lemmas.List.{length-replicate}
use Rattle.modules_c.specs.Heapmem.Heaps.{front}
use Rattle.modules_c.proofs.HeapmemEdits.{free_inside}
use Rattle.modules_c.proofs.HeapmemPuts.{put_is, put_table}
use Rattle.modules_c.proofs.HeapmemTables.{places_rise}
use Rattle.modules_c.proofs.heapmem.block.put.Goals as goal

pub clear-requires : goal.clear-requires
clear-requires c = grind (arith, free_inside)

pub returns-clause-heap : goal.returns-clause-heap
returns-clause-heap c = grind (arith, put_is, length-replicate)

pub returns-clause-table : goal.returns-clause-table
returns-clause-table c = grind (arith, put_table)

pub insert-requires-clause-order : goal.insert-requires-clause-order
insert-requires-clause-order c = places_rise 0 (front c.args.rows.now) (length c.args.bytes.now) c.requires.table
