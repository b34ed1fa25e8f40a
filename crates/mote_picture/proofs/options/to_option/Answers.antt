use Rattle.std.proofs.Common.{◌∙◌, ap, codes}
use Rattle.command_line.specs.CommandLine.{number_option}
use Rattle.mote_picture.proofs.options.to_option.Goals as goal

pub returns-clause-rule : goal.returns-clause-rule
returns-clause-rule c = c.number_option.ensures.rule ∙ ap (number_option (codes "to")) c.value_parser.ensures
