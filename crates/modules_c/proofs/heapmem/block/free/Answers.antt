use Rattle.std.proofs.Common.{length, arith}
use Rattle.modules_c.proofs.HeapmemEdits.{no_block, block_found}
use Rattle.modules_c.proofs.HeapmemPuts.{gone_is}
use Rattle.modules_c.proofs.HeapmemTables.{places_rise, lie_without}
use Rattle.modules_c.proofs.heapmem.block.free.Goals as goal

pub returns-in_default-clause-answer : goal.returns-in_default-clause-answer
returns-in_default-clause-answer c = grind (arith, no_block)

pub returns-clause-answer : goal.returns-clause-answer
returns-clause-answer c = grind (arith, block_found)

pub returns-clause-block : goal.returns-clause-block
returns-clause-block c done = grind (arith, gone_is)

pub returns-clause-sound : goal.returns-clause-sound
returns-clause-sound c done = grind (arith, lie_without)

pub row_at-requires : goal.row_at-requires
row_at-requires c = places_rise 0 c.args.rows.now (length c.args.bytes.now) (c.is_table.ensures.0 c.if-not-is_table.false)
