use Rattle.std.proofs.lemmas.Str.Pattern.{contains_text}
use Rattle.mote_kit.proofs.run_file.flaw.has_text.Goals as goal

pub returns : goal.returns
returns c = contains_text c.contains.result c.args.text.now c.args.line.now c.contains.ensures.cases
