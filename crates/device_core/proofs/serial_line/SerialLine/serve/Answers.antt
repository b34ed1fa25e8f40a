use Rattle.std.proofs.Common.{arith}
use Rattle.device_core.proofs.WholeLines.{next_whole, none_after_whole}
use Rattle.device_core.proofs.serial_line.SerialLine.serve.Goals as goal

pub returns-then-self-clause-answer : goal.returns-then-self-clause-answer
returns-then-self-clause-answer c = grind (arith, next_whole)

pub returns-then-self-clause-rest : goal.returns-then-self-clause-rest
returns-then-self-clause-rest c = grind (arith, none_after_whole)
