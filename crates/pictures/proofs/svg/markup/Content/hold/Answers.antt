use Rattle.std.proofs.Common.{◌≡◌, ◌++◌, refl}
use Rattle.pictures.specs.Svg.Markup.{IsContent, AreAttributes, element_text}
use Rattle.pictures.specs.Svg.Markup.IsContent.{element}
use Rattle.pictures.proofs.Contents.{grown}
use Rattle.pictures.proofs.svg.markup.Content.hold.Goals as goal

pub invariant_of-self : goal.invariant_of-self
invariant_of-self c =
    let same : c.as_slice-3.result.now ≡ element_text c.element.inside.tag c.as_slice.result.now c.as_slice-2.result.now =
    rw (c.as_slice-3.ensures.value, c.in_ok-push_element.ensures, c.new-whole.ensures.items) refl in
    let attributes : AreAttributes c.as_slice.result.now =
    (c.element.inside.named.items, rw c.as_slice.ensures.value c.element.invariant) in
    let inside : IsContent c.as_slice-2.result.now = rw c.as_slice-2.ensures.value c.inside.invariant in
    let whole : IsContent (c.self.inside.bytes.items ++ c.as_slice-3.result.now) =
    rw same (element c.self.invariant c.element.inside.tag attributes inside) in
    grown _ _ _ _ c.extend_from_slice.ensures.items c.self.invariant whole
