-- A text that is cut at its commas, part by part.
use Rattle.std.proofs.Common.{◌≡◌, ◌∙◌, ℕ, List, [], ◌∷◌, ◌++◌, ap, refl, subst, append-nil, append_assoc, codes, Option, Some, None}
use denote.Ref.{Bor}
use Rattle.call_lists.specs.Code.Lists.{AreBehind, behind_comma}

module _ {T : Type 0} (AreOf : List (List ℕ) → List T → Type 0) (P : List T → Type 0) where
  -- whatever the rest makes, the whole makes after what was made
  abbrev pub IsOnward : Option (Bor (List ℕ)) → List T → Type 0
  IsOnward left made = (more : List T) → AreBehind AreOf (behind_comma left) more → P (made ++ more)

  pub one_part_less : {left : Option (Bor (List ℕ))} {parts : Bor (List ℕ)} (part : List ℕ) (others : Option (Bor (List ℕ)))
      (old made : List T)
      → left ≡ Some parts → parts.now ≡ part ++ behind_comma others
      → ((parts : List (List ℕ)) (more : List T) → AreOf parts more → AreOf (part ∷ parts) (made ++ more)) → IsOnward left old
      → IsOnward others (old ++ made)
  one_part_less part others old made is cut of onward = λ more are.
      rw (append_assoc old made more) (onward (made ++ more) (
        part ∷ are.0,
        rw is (ap (λ text. codes ", " ++ text) (cut ∙ ap (λ text. part ++ text) are.1)),
        of are.0 more are.2,
      ))

  pub none_left : {left : Option (Bor (List ℕ))} (made : List T) → left ≡ None → AreOf [] [] → IsOnward left made → P made
  none_left made is none onward = subst P (append-nil made) (onward [] ([], rw is refl, none))
