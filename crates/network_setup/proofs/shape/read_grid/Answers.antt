use Rattle.std.proofs.Common.{sym}
use Rattle.network_setup.proofs.ShortLines.{grid_short}
use Rattle.network_setup.proofs.shape.read_grid.Goals as goal

pub returns-in_default : goal.returns-in_default
returns-in_default c = sym (grid_short c.args.words.now c.in_default.len_below)
