use Rattle.pictures.specs.Svg.Markup.HaveText.{none}
use Rattle.pictures.proofs.svg.markup.Element.new.Goals as goal

pub invariant_of-result : goal.invariant_of-result
invariant_of-result c = rw (c.new.ensures.items, c.new-2.ensures.items) none
