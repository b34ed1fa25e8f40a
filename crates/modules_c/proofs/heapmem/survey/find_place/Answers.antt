use Rattle.std.proofs.Common.{arith}
use Rattle.modules_c.proofs.HeapmemTables.{free_shorter}
use Rattle.modules_c.proofs.heapmem.survey.find_place.Goals as goal

pub returns-in-Some-best-clause-free : goal.returns-in-Some-best-clause-free
returns-in-Some-best-clause-free c = grind (arith, free_shorter)

pub returns-in-Some-best-clause-room : goal.returns-in-Some-best-clause-room
returns-in-Some-best-clause-room c = grind arith
