-- A row's calls, part by part.
use Rattle.std.proofs.Common.{◌≡◌, ◌+◌, ℕ, List, [], ◌∷◌, ◌++◌, arith, codes, length}
use Rattle.std.proofs.lemmas.Grind.{common_steps}
use Rattle.call_lists.specs.Code.Lists.{AreBehind}
use Rattle.call_lists.specs.RowTexts.{AreCalls, AreOfParts, AreSteps, IsStep}
use Rattle.call_lists.specs.declared.rows.row.Step.{Step}

module _ (words : List ℕ) where
  -- n calls of these words after the others
  pub record AreCopies (count : ℕ) (old new : List Step) : Type 0 where
    pub made : List Step
    pub are_steps : AreSteps words made
    pub is_count : length made ≡ count
    pub behind : new ≡ old ++ made

  steps_more : (steps : List Step) (step : Step) → AreSteps words steps → IsStep words step
      → AreSteps words (steps ++ step ∷ [])
  steps_more [] step are is = (is, tt)
  steps_more (first ∷ steps) step are is = (are.0, steps_more steps step are.1 is)

  pub copies_more : (count : ℕ) (old new : List Step) (step : Step) → AreCopies count old new → IsStep words step
      → AreCopies (count + 1) old (new ++ step ∷ [])
  copies_more count old new step copies is = grind (arith, steps_more, common_steps)

-- a text has at least one part
pub of_text : (text : List ℕ) (steps : List Step) → AreBehind AreOfParts (codes ", " ++ text) steps → AreCalls text steps
of_text text steps ([], is, are) = cc is
of_text text steps (part ∷ parts, is, are) = grind arith
