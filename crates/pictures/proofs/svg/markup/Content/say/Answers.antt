use Rattle.std.proofs.Common.{◌≡◌, ◌++◌, arith}
use Rattle.pictures.specs.Svg.Markup.{IsContent, escaped}
use Rattle.pictures.specs.Svg.Markup.IsContent.{words}
use Rattle.pictures.proofs.Contents.{grown}
use Rattle.pictures.proofs.svg.markup.Content.say.Goals as goal

pub invariant_of-self : goal.invariant_of-self
invariant_of-self c =
    let same : c.as_slice.result.now ≡ escaped c.args.text.now = grind arith in
    let whole : IsContent (c.self.inside.bytes.items ++ c.as_slice.result.now) = rw same (words c.self.invariant c.args.text.now) in
    grown _ _ _ _ c.extend_from_slice.ensures.items c.self.invariant whole
