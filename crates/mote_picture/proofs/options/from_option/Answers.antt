use Rattle.std.proofs.Common.{◌≡◌, ◌∙◌, ap, codes}
use Rattle.clap.specs.Words.{rule_of}
use Rattle.command_line.specs.CommandLine.{number_option, with_default}
use Rattle.mote_picture.specs.CommandLine.{clock_option}
use Rattle.mote_picture.proofs.options.from_option.Goals as goal

pub returns-clause-rule : goal.returns-clause-rule
returns-clause-rule c =
    let rule : rule_of c.number_option.result ≡ clock_option (codes "from") =
    c.number_option.ensures.rule ∙ ap (number_option (codes "from")) c.value_parser.ensures in
    ap rule_of c.default_value.ensures ∙ ap (with_default (codes "0")) rule
