use Rattle.std.proofs.Common.{sym}
use Rattle.network_setup.proofs.ShortLines.{carriage_short}
use Rattle.network_setup.proofs.carriage.Carriage.from_words.Goals as goal

pub returns-in_default : goal.returns-in_default
returns-in_default c = sym (carriage_short c.args.words.now c.in_default.len_below)
