use Rattle.mote_kit.proofs.Fitting.{strips}
use Rattle.mote_kit.proofs.gaps.rest_of.Goals as goal

pub returns : goal.returns
returns c = strips c.args.text.now c.args.lines.now c.strip_prefix.result c.strip_prefix.ensures.cases
