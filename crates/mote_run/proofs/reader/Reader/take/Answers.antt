use Rattle.std.proofs.Common.{arith}
use Rattle.mote_run.proofs.Common.{length-take}
use Rattle.mote_run.proofs.reader.Reader.take.Goals as goal

pub returns-in-Some-clause-says : goal.returns-in-Some-clause-says
returns-in-Some-clause-says c = grind (arith, length-take)
