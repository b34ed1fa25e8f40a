-- Well-formed markup: each element is closed, and every text is escaped.
use Rattle.std.specs.Prelude.{◌≡◌, ℕ, Bool, false, List, [], ◌∷◌, ◌++◌, flat_map, bytes_eq, codes, if◌then◌else◌, ◌==◌, nat_lt}
use Rattle.std.specs.List.{list_any}
use Rattle.pictures.specs.declared.svg.markup.names.Tag.{Tag}
use Rattle.pictures.specs.declared.svg.markup.names.Attribute.{Attribute}
use Rattle.pictures.specs.Svg.Names.{tag_name, attribute_name}

-- a byte as it is in a text: what markup is made of by its name, and one that no text may have as a question mark
abbrev pub escaped_byte : ℕ → List ℕ
escaped_byte byte =
    if byte == 38 then codes "&amp;"
    else if byte == 60 then codes "&lt;"
    else if byte == 62 then codes "&gt;"
    else if byte == 34 then codes "&quot;"
    else if byte == 10 then codes "\n"
    else if nat_lt byte 32 then codes "?"
    else byte ∷ []

abbrev pub escaped : List ℕ → List ℕ
escaped text = flat_map escaped_byte text

-- an attribute with a space in front of it: its name, and its value in quotes
abbrev pub attribute_text : Attribute → List ℕ → List ℕ
attribute_text attribute value = codes " " ++ attribute_name attribute ++ codes "=\"" ++ escaped value ++ codes "\""

-- it has the name of one of these
abbrev pub is_named : Attribute → List Attribute → Bool
is_named attribute others = list_any (λ other. bytes_eq (attribute_name other) (attribute_name attribute)) others

-- the text of these attributes, one after the other, with these values: no two have the same name
pub data HaveText : List Attribute → List ℕ → Type 0 where
  none : HaveText [] []
  one_more : {before : List Attribute} {text : List ℕ} → HaveText before text → (attribute : Attribute) (value : List ℕ)
      → is_named attribute before ≡ false
      → HaveText (before ++ attribute ∷ []) (text ++ attribute_text attribute value)

-- the text of some attributes, no two of the same name
abbrev pub AreAttributes : List ℕ → Type 0
AreAttributes text = (attributes : List Attribute) × HaveText attributes text

-- an element of that tag with these attributes, and this content
abbrev pub element_text : Tag → List ℕ → List ℕ → List ℕ
element_text tag attributes inside =
    codes "<" ++ tag_name tag ++ attributes ++ codes ">" ++ inside ++ codes "</" ++ tag_name tag ++ codes ">"

-- elements and texts, one after the other: each element is closed, and its content is such content too
pub data IsContent : List ℕ → Type 0 where
  nothing : IsContent []
  words : {before : List ℕ} → IsContent before → (text : List ℕ) → IsContent (before ++ escaped text)
  element : {before attributes inside : List ℕ} → IsContent before → (tag : Tag) → AreAttributes attributes → IsContent inside
      → IsContent (before ++ element_text tag attributes inside)

-- a document: one element
pub record IsDocument (text : List ℕ) : Type 0 where
  pub tag : Tag
  pub attributes : List ℕ
  pub inside : List ℕ
  pub are_attributes : AreAttributes attributes
  pub is_content : IsContent inside
  pub whole : text ≡ element_text tag attributes inside
