use Rattle.std.proofs.Common.{◌∙◌, ap, codes}
use Rattle.command_line.proofs.Common.{found_of, is_in_words}
use Rattle.command_line.proofs.Matches.{source_given}
use Rattle.command_line.proofs.options.is_quiet.Goals as goal

pub returns : goal.returns
returns c = c.is_in_words.ensures ∙ ap is_in_words (c.value_source.ensures ∙ source_given (found_of c.args.matches.now) (codes "quiet"))
