use Rattle.std.proofs.Common.{arith}
use Rattle.pictures.proofs.ReadNumbers.{decimal_of_read}
use Rattle.pictures.proofs.transcript.line.read_ending.Goals as goal

pub returns-in_ok-number-in_default-clause-written : goal.returns-in_ok-number-in_default-clause-written
returns-in_ok-number-in_default-clause-written c = grind (arith, decimal_of_read)
