-- A row's text, from its parts.
use Rattle.std.proofs.Common.{◌≡◌, ℕ, List, [], ◌++◌, inl, refl, arith, false, codes}
use Rattle.std.proofs.lemmas.Grind.{common_steps}
use Rattle.std.proofs.lemmas.List.{append-nil}
use Rattle.call_lists.specs.Rows.{Rule}
use Rattle.call_lists.specs.RowTexts.{AreCalls, IsRow, IsStimulus, last_word}

pub bare_row : (text stimulus : List ℕ) (rule : Rule) → text ≡ stimulus ++ codes ":" → IsStimulus stimulus rule.trigger → rule.steps ≡ []
    → rule.repeats ≡ false → rule.place ≡ 0 → IsRow text rule
bare_row text stimulus rule whole is none once begins =
    (stimulus, [], grind (arith, append-nil), is, inl (refl, none, once), begins)

pub full_row : (text stimulus calls words : List ℕ) (rule : Rule) → text ≡ stimulus ++ (codes ": " ++ calls)
    → calls ≡ words ++ last_word rule.repeats
    → IsStimulus stimulus rule.trigger → AreCalls words rule.steps → rule.place ≡ 0 → IsRow text rule
full_row text stimulus calls words rule whole ends is are begins =
    (stimulus, codes " " ++ calls, grind (arith, common_steps), is, grind arith, begins)
