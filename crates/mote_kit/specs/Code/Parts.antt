-- Parts of an expected text, which are matched one after the other.
use Rattle.std.specs.Prelude.{◌≡◌, ◌≢◌, ◌≤◌, ℕ, List, ◌++◌, length}
use Rattle.std.specs.List.{AllByRecursion}
use Rattle.mote_kit.specs.Gaps.{gap}

abbrev pub HasNoGap : List (List ℕ) → Type 0
HasNoGap lines = AllByRecursion (λ line. line ≢ gap) lines

-- wherever a text has these lines, at least this number of lines is before them
abbrev pub IsNotEarlier : List (List ℕ) → List (List ℕ) → ℕ → Type 0
IsNotEarlier lines text number = (part rest : List (List ℕ)) → text ≡ part ++ (lines ++ rest) → number ≤ length part

-- these lines are first in a text after those that are skipped
abbrev pub IsFirst : List (List ℕ) → List (List ℕ) → List (List ℕ) → Type 0
IsFirst lines text left =
    (skipped : List (List ℕ)) × (text ≡ skipped ++ (lines ++ left)) × IsNotEarlier lines text (length skipped)

-- a text doesn't have these lines
abbrev pub IsNowhere : List (List ℕ) → List (List ℕ) → Type 0
IsNowhere lines text = (part rest : List (List ℕ)) → text ≢ part ++ (lines ++ rest)
