use Rattle.std.proofs.Common.{length, arith}
use Rattle.modules_c.proofs.HeapmemEdits.{no_block, free_inside}
use Rattle.modules_c.proofs.HeapmemMoves.{found_at}
use Rattle.modules_c.proofs.HeapmemTables.{places_rise, row_lies}
use Rattle.modules_c.proofs.heapmem.block.realloc.Goals as goal

pub returns-in_default-clause-answer : goal.returns-in_default-clause-answer
returns-in_default-clause-answer c = grind (arith, no_block)

pub returns-in-Some-room_in_place-clause-answer : goal.returns-in-Some-room_in_place-clause-answer
returns-in-Some-room_in_place-clause-answer c = grind (arith, found_at)

pub returns-in-Some-room_in_place-clause-block : goal.returns-in-Some-room_in_place-clause-block
returns-in-Some-room_in_place-clause-block c done = grind (arith, found_at)

pub returns-in-Err-clause-answer : goal.returns-in-Err-clause-answer
returns-in-Err-clause-answer c = grind (arith, found_at)

pub returns-clause-answer : goal.returns-clause-answer
returns-clause-answer c = grind (arith, found_at)

pub returns-clause-block : goal.returns-clause-block
returns-clause-block c done = grind (arith, found_at)

pub resize-requires-clause-small : goal.resize-requires-clause-small
resize-requires-clause-small c = grind (arith, row_lies)

pub relocate-requires-clause-small : goal.relocate-requires-clause-small
relocate-requires-clause-small c = grind (arith, free_inside)

pub row_at-requires : goal.row_at-requires
row_at-requires c = places_rise 0 c.args.rows.now (length c.args.bytes.now) (c.is_table.ensures.0 c.if-not-is_table.false)
