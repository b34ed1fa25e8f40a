use Rattle.std.proofs.Common.{◌++◌}
use Rattle.pictures.specs.Svg.Markup.{IsContent}
use Rattle.pictures.proofs.Contents.{grown, IsContent-append}
use Rattle.pictures.proofs.svg.markup.Content.append.Goals as goal

pub invariant_of-self : goal.invariant_of-self
invariant_of-self c =
    let whole : IsContent (c.self.inside.bytes.items ++ c.as_slice.result.now) =
    rw c.as_slice.ensures.value (IsContent-append c.self.invariant c.other.invariant) in
    grown _ _ _ _ c.extend_from_slice.ensures.items c.self.invariant whole
