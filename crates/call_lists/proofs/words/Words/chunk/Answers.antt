use Rattle.std.proofs.Common.{arith}
use Rattle.call_lists.proofs.Fitting.{chunk_passes, no_bytes_fail}
use Rattle.call_lists.proofs.words.Words.chunk.Goals.{in_default-via-in_default}
use Rattle.call_lists.proofs.words.Words.chunk.Goals as goal

pub returns-in-Some-clause-left : goal.returns-in-Some-clause-left
returns-in-Some-clause-left c = grind (arith, chunk_passes)

pub returns-in_default-clause-left : goal.returns-in_default-clause-left
returns-in_default-clause-left c = grind (arith, no_bytes_fail)
