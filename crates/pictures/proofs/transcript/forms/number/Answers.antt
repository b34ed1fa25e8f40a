use Rattle.std.proofs.Common.{arith}
use Rattle.pictures.proofs.ReadNumbers.{parsed}
use Rattle.pictures.proofs.transcript.forms.number.Goals as goal

pub returns : goal.returns
returns c = grind (arith, parsed)
