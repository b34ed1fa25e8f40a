-- The first lines of a script, which set a network up.
use Rattle.std.specs.Prelude.{◌≡◌, ◌≤◌, ◌==◌, ◌||◌, ◌⊎◌, ℕ, zero, suc, Bool, true, false, List, [], ◌∷◌, length, slice_index, codes, Some, None, is_some, IsUtf8, MatchBool, MatchOption}
use Rattle.mote_text.specs.Script.{argument_of, line_limit}
use Rattle.network_setup.specs.Lines.{line_said, words_of}
use Rattle.network_setup.specs.MoteLines.{AddsMotes, SaysNoMotes}
use Rattle.network_setup.specs.SetupView.{SetupView}
use Rattle.network_steps.specs.NetworkScript.{read_network_input}

-- UTF-8, and not too long
abbrev pub IsText : List ℕ → Type 0
IsText line = (length line ≤ line_limit) × IsUtf8 line

-- it is empty, or a comment
abbrev pub is_blank : List ℕ → Bool
is_blank line = length line == 0 || slice_index line 0 == 35

abbrev pub is_input : List ℕ → Bool
is_input line = is_some (read_network_input line)

-- what a line sets up: motes, or anything else
abbrev pub DoesSaid : List ℕ → SetupView → SetupView → Type 0
DoesSaid line old new =
    MatchOption (argument_of (codes "mote ") line) (line_said (words_of line) old ≡ Some new) (λ text. AddsMotes text old new)

-- it says nothing that can be set up
abbrev pub SaysNothing : List ℕ → SetupView → Type 0
SaysNothing line setup =
    MatchOption (argument_of (codes "mote ") line) (line_said (words_of line) setup ≡ None) (λ text. SaysNoMotes text setup)

-- the line is malformed: it isn't text, or neither an input nor blank, and says nothing that can be set up
abbrev pub IsMalformed : List ℕ → SetupView → Type 0
IsMalformed line setup = ¬ IsText line ⊎ ((is_input line ≡ false) × (is_blank line ≡ false) × SaysNothing line setup)

-- a line that is no input was executed. A blank line changes nothing
abbrev pub IsExecuted : List ℕ → SetupView → SetupView → Type 0
IsExecuted line old new = IsText line × (is_input line ≡ false) × MatchBool (is_blank line) (new ≡ old) (DoesSaid line old new)

-- the lines up to the first input were executed. Those from there on are left
abbrev pub AreCarriedOut : List (List ℕ) → List (List ℕ) → SetupView → SetupView → Type 0
AreCarriedOut [] left old new = (left ≡ []) × (new ≡ old)
AreCarriedOut (line ∷ lines) left old new =
    ((is_input line ≡ true) × (left ≡ line ∷ lines) × (new ≡ old))
    ⊎ ((between : SetupView) × IsExecuted line old between × AreCarriedOut lines left between new)

-- line n is malformed, and all before it were executed
abbrev pub IsBadLine : ℕ → List (List ℕ) → SetupView → Type 0
IsBadLine (suc zero) (line ∷ lines) old = IsMalformed line old
IsBadLine (suc (suc n)) (line ∷ lines) old = (between : SetupView) × IsExecuted line old between × IsBadLine (suc n) lines between
IsBadLine _ _ old = ⊥
