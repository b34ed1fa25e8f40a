-- Texts that are put together from lines.
use Rattle.std.proofs.Common.{◌≡◌, ◌++◌, ◌∙◌, ◌∷◌, List, ℕ, [], refl, ap, sym, append_assoc}
use Rattle.std.proofs.lemmas.List.{append-nil}
use Rattle.std.specs.List.{concat, flat_map}
use Rattle.std.specs.Prelude.{map}

concat_more : (lines : List (List ℕ)) (line : List ℕ) → concat (lines ++ line ∷ []) ≡ concat lines ++ line
concat_more [] line = append-nil line
concat_more (first ∷ lines) line = ap (λ v. first ++ v) (concat_more lines line) ∙ sym (append_assoc first (concat lines) line)

module _ {A : Type 0} (text_of : A → List ℕ) where
  concat_of : (all : List A) → flat_map text_of all ≡ concat (map text_of all)
  concat_of [] = refl
  concat_of (one ∷ all) = ap (λ v. text_of one ++ v) (concat_of all)

  -- a line more
  pub joined_more : (old new : List A) (line : List ℕ) → map text_of new ≡ map text_of old ++ line ∷ []
      → flat_map text_of new ≡ flat_map text_of old ++ line
  joined_more old new line is =
      concat_of new ∙ ap concat is ∙ concat_more (map text_of old) line ∙ ap (λ v. v ++ line) (sym (concat_of old))
