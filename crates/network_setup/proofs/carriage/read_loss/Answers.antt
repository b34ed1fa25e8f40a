use Rattle.std.proofs.Common.{arith, sym}
use Rattle.network_setup.proofs.ShortLines.{loss_of_three, loss_too_long}
use Rattle.network_setup.proofs.carriage.read_loss.Goals as goal

pub returns-in_default-2 : goal.returns-in_default-2
returns-in_default-2 c = sym (loss_of_three c.args.words.now (omega arith) (omega arith))

pub returns-in_default-3 : goal.returns-in_default-3
returns-in_default-3 c = sym (loss_too_long c.args.words.now (omega arith))
