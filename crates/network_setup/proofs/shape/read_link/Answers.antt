use Rattle.std.proofs.Common.{sym}
use Rattle.network_setup.proofs.ShortLines.{link_short}
use Rattle.network_setup.proofs.shape.read_link.Goals as goal

pub returns-in_default : goal.returns-in_default
returns-in_default c = sym (link_short c.args.words.now c.in_default.len_below)
