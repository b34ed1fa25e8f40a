-- An element by its parts.
use Rattle.std.specs.Prelude.{ℕ, List, [], ◌∷◌, ◌++◌, if◌then◌else◌}
use Rattle.pictures.specs.declared.svg.markup.names.Tag.{Tag}
use Rattle.pictures.specs.declared.svg.markup.names.Attribute.{Attribute}
use Rattle.pictures.specs.Svg.Markup.{attribute_text, element_text, escaped, is_named}

pub record Parts : Type 0 where
  pub tag : Tag
  -- its attributes, in order
  pub named : List Attribute
  -- the text of its attributes
  pub attributes : List ℕ
  -- the text of the content
  pub inside : List ℕ

abbrev pub text_of : Parts → List ℕ
text_of element = element_text element.tag element.attributes element.inside

-- with one more attribute; an element that has it already stays as it is
abbrev pub with_attribute : Attribute → List ℕ → Parts → Parts
with_attribute attribute value element =
    if is_named attribute element.named then element
    else record element { named = element.named ++ attribute ∷ []; attributes = element.attributes ++ attribute_text attribute value }

-- with a text after its content
abbrev pub with_text : List ℕ → Parts → Parts
with_text text element = record element { inside = element.inside ++ escaped text }

-- with an element after its content
abbrev pub with_element : Parts → Parts → Parts
with_element inner element = record element { inside = element.inside ++ text_of inner }
