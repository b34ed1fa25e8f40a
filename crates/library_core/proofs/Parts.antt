-- A list that is cut at its commas, part by part.
use Rattle.std.proofs.Common.{◌≡◌, ◌∙◌, ◌+◌, ◌*◌, ◌≤◌, ℕ, suc, List, ◌∷◌, ◌++◌, refl, inl, inr, sym, ap, arith, codes, drop, take, length, length-append, Option, Some, None, []}
use Rattle.std.specs.List.{All}
use Rattle.std.specs.Str.Pattern.{FindsText}
use Rattle.std.proofs.Math.Seq.{drop-append_seam}
use Rattle.std.proofs.lemmas.Grind.{common_steps, flat_map-append}
use Rattle.std.proofs.lemmas.List.{append-nil, append_assoc, take-append-drop}
use Rattle.std.proofs.lemmas.List.Elements.{All-push}
use Rattle.call_lists.specs.Code.Lists.{behind_comma}
use Rattle.library_core.specs.Reasons.{HasCallsAlone, HasNoCallAt, IsBehindPart, IsCallPart, IsNoCallPart, IsOnePart, with_commas}
use denote.Ref.{Bor}

abbrev pub size_of : Option (Bor (List ℕ)) → ℕ
size_of None = 0
size_of (Some left) = suc (length left.now)

-- two bytes follow each part
as_many : (parts : List (List ℕ)) → 2 * length parts ≤ length (with_commas parts)
as_many [] = omega arith
as_many (part ∷ parts) =
    let others = as_many parts in
    let size = length-append (part ++ codes ", ") (with_commas parts) in
    let first = length-append part (codes ", ") in
    omega (arith, others, size, first)

behind_part : (others : Option (Bor (List ℕ))) → IsBehindPart (behind_comma others)
behind_part None = inl refl
behind_part (Some others) = inr (others.now, refl)

module _ (text : List ℕ) where
  -- the text before the first comma is one part
  pub first_part : (part : List ℕ) (i j : ℕ) → FindsText (codes ", ") text (Some (i, j)) → part ≡ take i text → length part ≡ i
      → IsOnePart part
  first_part part i j finds is size front behind has =
      let whole : text ≡ front ++ ((codes ", " ++ behind) ++ drop i text) =
      sym (take-append-drop i text) ∙ ap (λ before. before ++ drop i text) (sym is ∙ has)
      ∙ append_assoc front (codes ", " ++ behind) (drop i text) in
      let long = sym size ∙ ap length has ∙ length-append front (codes ", " ++ behind) in
      finds.0 (length front) (omega (arith, long)) (behind ++ drop i text)
      (ap (drop (length front)) whole ∙ drop-append_seam front ((codes ", " ++ behind) ++ drop i text)
      ∙ append_assoc (codes ", ") behind (drop i text))

  -- so is a text without commas
  pub only_part : FindsText (codes ", ") text None → IsOnePart text
  only_part finds front behind has =
      let long = ap length has ∙ length-append front (codes ", " ++ behind) in
      finds (length front) (omega (arith, long)) behind (ap (drop (length front)) has ∙ drop-append_seam front (codes ", " ++ behind))

  -- n parts before the rest are calls; without a rest, all are
  abbrev pub IsLeft : ℕ → Option (Bor (List ℕ)) → Type 0
  IsLeft place None = HasCallsAlone text
  IsLeft place (Some left) =
      (before : List (List ℕ)) × (text ≡ with_commas before ++ left.now) × (place ≡ length before) × All IsCallPart before

  module _ (place : ℕ) (left : Bor (List ℕ)) where
    pub counted : IsLeft place (Some left) → 2 * place ≤ length text
    counted is =
        let size = ap length is.1 ∙ length-append (with_commas is.0) left.now in
        let many = as_many is.0 in
        omega (arith, size, many, is.2)

    module _ (part : List ℕ) where
      pub none_here : (others : Option (Bor (List ℕ)))
          → IsLeft place (Some left)
          → left.now ≡ part ++ behind_comma others → IsNoCallPart part → HasNoCallAt text place
      none_here others is cut none =
          record {
            before = is.0;
            part = part;
            behind = behind_comma others;
            is_text = is.1 ∙ ap (λ last. with_commas is.0 ++ last) cut;
            is_behind = behind_part others;
            is_number = is.2;
            are_calls = is.3;
            is_no_call = none;
          }

      pub one_more : (others : Option (Bor (List ℕ)))
          → IsLeft place (Some left)
          → left.now ≡ part ++ behind_comma others → IsCallPart part → IsLeft (place + 1) others
      one_more None is cut call =
          record {
            before = is.0;
            last = part;
            is_text = is.1 ∙ ap (λ last. with_commas is.0 ++ last) (cut ∙ append-nil part);
            are_calls =
                is.3;
            is_call = call;
          }
      one_more (Some others) is cut call =
          let so_far = is.1 in (
            is.0 ++ part ∷ [],
            grind (arith, common_steps, so_far, cut, flat_map-append),
            omega (arith, is.2, length-append is.0 (part ∷ [])),
            All-push IsCallPart is.0 part is.3 call,
          )
