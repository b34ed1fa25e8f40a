-- Examples of markup: a document is one element, with each attribute once; an opening bracket is no content.
use Rattle.std.proofs.Common.{◌≡◌, ◌++◌, ℕ, false, true, List, [], ◌∷◌, codes, refl, ap, subst, arith, get_or, inl, inr, length, ◌⊎◌}
use Rattle.std.proofs.lemmas.Bool.Decides.{nat_tests}
use Rattle.std.proofs.lemmas.List.{length-append}
use Rattle.pictures.specs.declared.svg.markup.names.Attribute.{Attribute}
use Rattle.pictures.specs.declared.svg.markup.names.Tag.{Tag}
use Rattle.pictures.specs.Svg.Markup.{AreAttributes, HaveText, IsContent, IsDocument, element_text, escaped, escaped_byte, is_named}
use Rattle.pictures.specs.Svg.Markup.HaveText.{none, one_more}
use Rattle.pictures.specs.Svg.Markup.IsContent.{nothing, words, element}
use Rattle.pictures.specs.Svg.Parts.{Parts, with_attribute}

escaped_text : escaped (codes "a<b>&\"") ≡ codes "a&lt;b&gt;&amp;&quot;"
escaped_text = refl

a_document : IsDocument (codes "<svg></svg>")
a_document =
    record {
      tag = Tag.Svg;
      attributes = [];
      inside = [];
      are_attributes = ([], none);
      is_content = nothing;
      whole = refl;
    }

-- a document begins with its element, and has attributes and content
no_document : IsDocument [] → ⊥
no_document is = absurd (cc is.whole)

no_element : IsDocument (codes "on") → ⊥
no_element is = let letters_differ : ◌≡◌ {A = ℕ} 111 60 = ap (λ text. get_or text 0 0) is.whole in absurd (omega arith)

holds_content : (text : List ℕ) (is : IsDocument text) → AreAttributes is.attributes × IsContent is.inside
holds_content text is = (is.are_attributes, is.is_content)

-- no attribute appears twice
width_alone : (before : List Attribute) (attribute : Attribute) → is_named attribute before ≡ false
    → before ++ attribute ∷ [] ≡ Attribute.Width ∷ Attribute.Width ∷ [] → ⊥
width_alone [] attribute new same = cc
width_alone (first ∷ []) attribute new same =
    let first_is : first ≡ Attribute.Width = cc in
    let second_is : attribute ≡ Attribute.Width = cc in
    let found : true ≡ false =
    subst (λ other. is_named Attribute.Width (other ∷ []) ≡ false) first_is
    (subst (λ other. is_named other (first ∷ []) ≡ false) second_is new) in
    cc
width_alone (first ∷ second ∷ others) attribute new same =
    let size = ap length same in
    let grown = length-append others (attribute ∷ []) in
    absurd (omega (arith, size, grown))

width_twice : {named : List Attribute} {text : List ℕ} → HaveText named text → named ≡ Attribute.Width ∷ Attribute.Width ∷ [] → ⊥
width_twice none same = cc
width_twice (one_more {before} {text} have attribute value new) same = width_alone before attribute new same

abbrev wide : Parts
wide = with_attribute Attribute.Width (codes "5") (record { tag = Tag.Rect; named = []; attributes = []; inside = [] })

stays_as_it_is : with_attribute Attribute.Width (codes "7") wide ≡ wide
stays_as_it_is = refl

high_too : (with_attribute Attribute.Height (codes "7") wide).attributes ≡ codes " width=\"5\" height=\"7\""
high_too = refl

-- an opening bracket alone is no content
no_byte : (byte : ℕ) (rest : List ℕ) → escaped_byte byte ++ rest ≡ 60 ∷ [] → ⊥
no_byte byte rest same = let first = ap (λ text. get_or text 0 0) same in grind (arith, nat_tests)

no_text : (text : List ℕ) → escaped text ≡ 60 ∷ [] → ⊥
no_text [] same = cc
no_text (byte ∷ text) same = no_byte byte (escaped text) same

-- after this text it is alone only if the text is empty, or all
alone : (before text : List ℕ) → before ++ text ≡ 60 ∷ [] → (text ≡ 60 ∷ []) ⊎ (before ≡ 60 ∷ [])
alone [] text same = inl same
alone (first ∷ []) text same = inr (ap (λ content. get_or content 0 0 ∷ []) same)
alone (first ∷ second ∷ others) text same = absurd (cc)

no_element_text : (tag : Tag) (attributes inside : List ℕ) → element_text tag attributes inside ≡ 60 ∷ [] → ⊥
no_element_text Tag.Svg attributes inside same = cc
no_element_text Tag.Style attributes inside same = cc
no_element_text Tag.Rect attributes inside same = cc
no_element_text Tag.Path attributes inside same = cc
no_element_text Tag.Circle attributes inside same = cc
no_element_text Tag.Text attributes inside same = cc
no_element_text Tag.Span attributes inside same = cc
no_element_text Tag.Title attributes inside same = cc

bracket : {content : List ℕ} → IsContent content → content ≡ 60 ∷ [] → ⊥
bracket nothing same = cc
bracket (words {before} is text) same =
    elim (alone before (escaped text) same) [
      | inl all ↦ no_text text all
      | inr front ↦ bracket is front
    ]
bracket (element {before} {attributes} {inside} is tag are within) same =
    elim (alone before (element_text tag attributes inside) same) [
      | inl all ↦ no_element_text tag attributes inside all
      | inr front ↦ bracket is front
    ]
