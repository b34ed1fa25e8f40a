use Rattle.std.proofs.Common.{◌≡◌, ◌∙◌, ◌<◌, ◌+◌, ◌-◌, ◌++◌, ◌∷◌, ℕ, zero, suc, List, [], All, length, take, get_or, slice_index_or, ap, ap₂, refl, sym, subst, arith}
use Rattle.std.proofs.lemmas.List.{length-map, map-append, take_all, take_more}
use Rattle.std.proofs.lemmas.List.Elements.{All-more}
use Rattle.std.specs.Borrow.{Bor}
use Rattle.pictures.specs.Rows.{bytes_of}
use Rattle.mote_picture.specs.Reading.{IsLine}
use Rattle.mote_picture.proofs.reading.texts_of.Goals as goal

text_is : (parts : List (Bor (List ℕ))) (index : ℕ) (part : Bor (List ℕ)) → part.now ≡ []
    → slice_index_or (bytes_of parts) index [] ≡ (slice_index_or parts index part).now
text_is [] index part none = sym none
text_is (first ∷ parts) zero part none = refl
text_is (first ∷ parts) (suc index) part none = text_is parts index part none

pub loop-index-preserved : goal.loop-index-preserved
loop-index-preserved c =
    let parts = c.args.parts.now in
    let index = c.loop-index.index in
    let size : length (bytes_of parts) ≡ length parts = length-map parts (λ (part : Bor (List ℕ)). part.now) in
    let inside : index < length (bytes_of parts) = omega (arith, size) in
    let here : c.in-Some.line.now ≡ get_or (bytes_of parts) index [] = c.in-Some.ensures.same ∙ sym (text_is parts index _ refl) in
    record {
      lines = ap bytes_of c.in_ok-push.ensures.items
          ∙ map-append (λ (part : Bor (List ℕ)). part.now) c.loop-index.lines.items (c.in-Some.line ∷ [])
          ∙ ap₂ (λ front line. front ++ line ∷ []) c.loop-index.invariant.lines here ∙ sym (take_more (bytes_of parts) index [] inside);
      read = All-more IsLine (bytes_of parts) index [] inside c.loop-index.invariant.read (subst IsLine here c.in-Some.ensures.read);
    }

pub returns-in_default-clause-unread : goal.returns-in_default-clause-unread
returns-in_default-clause-unread c =
    let size : length (bytes_of c.args.parts.now) ≡ length c.args.parts.now =
    length-map c.args.parts.now (λ (part : Bor (List ℕ)). part.now) in
    let before : c.loop-index.index ≡ c.loop-index.index + 1 - 1 = omega arith in
    let here = text_is c.args.parts.now c.loop-index.index _ refl in
    let none : IsLine (slice_index_or (bytes_of c.args.parts.now) c.loop-index.index []) → ⊥ =
    λ line. c.in_default.ensures.none (subst IsLine here line) in (
      omega arith,
      omega (arith, size),
      subst (λ n. All IsLine (take n (bytes_of c.args.parts.now))) before c.loop-index.invariant.read,
      subst (λ n. IsLine (slice_index_or (bytes_of c.args.parts.now) n []) → ⊥) before none,
    )

pub returns-clause-read : goal.returns-clause-read
returns-clause-read c =
    let size : length (bytes_of c.args.parts.now) ≡ length c.args.parts.now =
    length-map c.args.parts.now (λ (part : Bor (List ℕ)). part.now) in
    subst (All IsLine) (take_all c.loop-index.index (bytes_of c.args.parts.now) (omega (arith, size))) c.loop-index.invariant.read
