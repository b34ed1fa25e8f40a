-- A picture that is put together.
use Rattle.std.proofs.Common.{◌≡◌, ℕ, List, [], ◌++◌, refl}
use Rattle.pictures.specs.declared.svg.markup.names.Tag.{Tag}
use Rattle.pictures.specs.Svg.Markup.{element_text}
use Rattle.pictures.specs.Svg.Parts.{Parts, text_of}

-- an element around several contents
pub whole-around : (frame first second third : Parts) (under grounds over picture : List ℕ) → frame.tag ≡ Tag.Svg → frame.inside ≡ []
    → first ≡ record frame { inside = frame.inside ++ under } → second ≡ record first { inside = first.inside ++ grounds }
    → third ≡ record second { inside = second.inside ++ over } → picture ≡ text_of third
    → picture ≡ element_text Tag.Svg third.attributes (under ++ grounds ++ over)
whole-around frame first second third under grounds over picture tag inside one two three is =
    rw (is, three, two, one, tag, inside) refl
