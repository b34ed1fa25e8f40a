use Rattle.std.proofs.Common.{refl}
use Rattle.pictures.proofs.svg.markup.Element.document.Goals as goal

pub returns-clause-document : goal.returns-clause-document
returns-clause-document c = record {
  tag = c.self.inside.tag;
  attributes = c.as_slice.result.now;
  inside = c.as_slice-2.result.now;
  are_attributes = (c.self.inside.named.items, rw c.as_slice.ensures.value c.self.invariant);
  is_content = rw c.as_slice-2.ensures.value c.inside.invariant;
  whole = rw (c.in_ok-push_element.ensures, c.new-whole.ensures.items) refl;
}
