use Rattle.std.proofs.Common.{sym, subst}
use Rattle.pictures.specs.Svg.Markup.{IsContent}
use Rattle.pictures.specs.Svg.Markup.IsContent.{nothing}
use Rattle.pictures.proofs.svg.markup.Content.new.Goals as goal

pub invariant_of-result : goal.invariant_of-result
invariant_of-result c = subst IsContent (sym c.new.ensures.items) nothing
