use Rattle.std.proofs.Common.{◌∙◌, refl}
use Rattle.command_line.proofs.options.mmem_sizes.Goals as goal

pub returns : goal.returns
returns c = (rw c.value_parser.ensures at c.range.ensures) ∙ rw (c.new.ensures.start, c.new.ensures.end) refl
