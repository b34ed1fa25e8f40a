use Rattle.std.proofs.Common.{arith}
use Rattle.pictures.proofs.ReadNumbers.{decimal_of_read}
use Rattle.pictures.proofs.transcript.line.read_input.Goals as goal

pub returns-in-Some-clause-written : goal.returns-in-Some-clause-written
returns-in-Some-clause-written c = grind (arith, decimal_of_read)
