use Rattle.std.proofs.Common.{◌≡◌, ◌∙◌, ap, refl, codes}
use Rattle.command_line.specs.CommandLine.{size_option, sizes_from}
use Rattle.command_line.proofs.options.heap_option.Goals as goal

pub returns-clause-rule : goal.returns-clause-rule
returns-clause-rule c =
    let narrowed = rw c.value_parser.ensures at c.range-numbers.ensures in
    let numbers : c.range-numbers.result ≡ sizes_from 20 = narrowed ∙ rw (c.new.ensures.start, c.new.ensures.end) refl in
    c.size_option.ensures.rule ∙ ap (size_option (codes "heap")) numbers
