use Rattle.std.proofs.Common.{rules}
use Rattle.pictures.specs.Svg.Markup.HaveText.{one_more}
use Rattle.pictures.proofs.svg.markup.Element.with.Goals as goal

pub invariant_of-result : goal.invariant_of-result
invariant_of-result c =
    rw (c.in_ok-push_attribute.ensures, c.in_ok-push.ensures.items)
    (one_more c.self.invariant c.args.attribute c.as_bytes.result.now (search rules))
