use Rattle.std.proofs.Common.{arith}
use Rattle.modules_c.proofs.HeapmemTables.{row_lies}
use Rattle.modules_c.proofs.HeapmemResizes.{room_last, room_next}
use Rattle.modules_c.proofs.heapmem.survey.room_in_place.Goals as goal

pub overflow_sub-most : goal.overflow_sub-most
overflow_sub-most c = grind (arith, row_lies)

pub returns-then-least-room-clause-fits : goal.returns-then-least-room-clause-fits
returns-then-least-room-clause-fits c = grind (arith, row_lies)

pub returns-then-least-most-clause-room : goal.returns-then-least-most-clause-room
returns-then-least-most-clause-room c bytes size = grind (arith, room_last, room_next)

pub returns-then-number-rows-clause-room : goal.returns-then-number-rows-clause-room
returns-then-number-rows-clause-room c bytes size = grind (arith, room_last)

pub returns-else-number-rows-clause-room : goal.returns-else-number-rows-clause-room
returns-else-number-rows-clause-room c bytes size = grind (arith, room_next)
