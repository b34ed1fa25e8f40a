-- What is known while the names are read, and what their refusal says.
use Rattle.std.proofs.Common.{arith, ◌≡◌, ◌≤◌, ◌++◌, ℕ, refl, sym, List, ◌∷◌, length, drop, min, Option, Some, None, find, filter_map, option_map, []}
use Rattle.std.proofs.lemmas.List.{length-map}
use Rattle.command_line.proofs.Common.{nat_tests, texts, find-map, RefusesNames, applications_of, is_unknown}
use Rattle.command_line.specs.Code.Names.{Name, application_of, refusal_of, is_strange}
use Rattle.command_line.specs.declared.refusal.Refusal.{Refusal}

module _ {A : Type 0} (by_name : List ℕ → Option A) where
  pub applications_of_texts : (names : List Name) → filter_map (application_of by_name) names ≡ applications_of by_name (texts names)
  applications_of_texts [] = refl
  applications_of_texts (name ∷ names) = rw (applications_of_texts names) refl

  module _ (names : List Name) where
    -- n names were read, the first applications
    pub record HasRead (count : ℕ) (applications : List A) : Type 0 where
      pub unknown : find (is_strange by_name) names ≡ find (is_strange by_name) (drop count names)
      pub few : length applications ≡ min count 16
      pub known : count ≤ 16 → filter_map (application_of by_name) names ≡ applications ++ filter_map (application_of by_name)
          (drop count names)

    unknown_of_texts : find (is_unknown by_name) (texts names) ≡ option_map (λ name. name.now) (find (is_strange by_name) names)
    unknown_of_texts = sym (find-map (is_unknown by_name) (λ name. name.now) names)

    pub known_texts : refusal_of by_name names ≡ None → (find (is_unknown by_name) (texts names) ≡ None)
        × (length (texts names) ≤ 16)
    known_texts known = grind (arith, unknown_of_texts, length-map)

    pub refused_texts : (refusal : Refusal) → refusal_of by_name names ≡ Some refusal
        → RefusesNames by_name (texts names) refusal
    refused_texts (Refusal.NoApplication name) refused = grind (arith, nat_tests, unknown_of_texts)
    refused_texts Refusal.TooManyApplications refused = grind (arith, nat_tests, unknown_of_texts, length-map)
    refused_texts refusal refused = grind (arith, nat_tests)
