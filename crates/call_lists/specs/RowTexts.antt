-- Which row a text is.
use Rattle.std.specs.Prelude.{◌≡◌, ◌≤◌, ◌<◌, ◌⊎◌, ⊤, ℕ, Bool, true, false, if◌then◌else◌, List, [], ◌∷◌, ◌++◌, length, codes, decimal, Option, Some, None}
use Rattle.std.specs.List.{join_by}
use Rattle.mote_types.specs.EventNumbers.{PACKET, SERIAL_LINE}
use Rattle.mote_types.specs.declared.call.Call.{Call}
use Rattle.call_lists.specs.Calls.{IsCall}
use Rattle.call_lists.specs.Rows.{Rule}
use Rattle.call_lists.specs.declared.rows.row.Step.{Step}
use Rattle.call_lists.specs.declared.rows.trigger.Trigger.{Trigger}

-- ---- what is before the colon

-- nothing, or a blank and a number
abbrev pub behind_stimulus : Option ℕ → List ℕ
behind_stimulus None = []
behind_stimulus (Some n) = codes " " ++ decimal n

abbrev pub IsWithin : ℕ → ℕ → Option ℕ → Type 0
IsWithin least most None = ⊤
IsWithin least most (Some n) = (least ≤ n) × (n ≤ most)

-- the two events of devices have words of their own
abbrev pub IsDeviceWord : List ℕ → ℕ → Type 0
IsDeviceWord text code = ((text ≡ codes "line") × (code ≡ SERIAL_LINE)) ⊎ ((text ≡ codes "frame") × (code ≡ PACKET))

abbrev pub IsEventWord : List ℕ → ℕ → Option ℕ → Type 0
IsEventWord text code number = (text ≡ decimal code ++ behind_stimulus number) ⊎ ((number ≡ None) × IsDeviceWord text code)

-- a node has four callback timers, and calls are refused for 18 reasons
abbrev pub IsStimulus : List ℕ → Trigger → Type 0
IsStimulus text Trigger.Any = text ≡ codes "any"
IsStimulus text (Trigger.Event code number) = IsEventWord text code number
IsStimulus text (Trigger.Callback timer) = (text ≡ codes "callback" ++ behind_stimulus timer) × IsWithin 0 3 timer
IsStimulus text (Trigger.Refused number) = (text ≡ codes "refused" ++ behind_stimulus number) × IsWithin 1 18 number

-- ---- what follows it

-- the text is these words; or these with `told` instead of the last one, which then is no bytes or 0
abbrev pub IsCallWithReceived : List ℕ → Bool → Call → Type 0
IsCallWithReceived text false call = IsCall text call
IsCallWithReceived text true call =
    (front : List ℕ) × (text ≡ front ++ codes " told") × (IsCall (front ++ codes " -") call ⊎ IsCall (front ++ codes " 0") call)

abbrev pub IsStep : List ℕ → Step → Type 0
IsStep text step = IsCallWithReceived text step.uses_received step.call

-- so it is of each of these
abbrev pub AreSteps : List ℕ → List Step → Type 0
AreSteps text [] = ⊤
AreSteps text (step ∷ steps) = IsStep text step × AreSteps text steps

-- the text is a call that is made once, or a call after a number n, from 1 on, that is made n times
abbrev pub AreMade : List ℕ → List Step → Type 0
AreMade text steps =
    ((length steps ≡ 1) × AreSteps text steps)
    ⊎ ((rest : List ℕ) × (0 < length steps) × (text ≡ decimal (length steps) ++ codes " " ++ rest) × AreSteps rest steps)

-- the calls are those of the parts, in their order
abbrev pub AreOfParts : List (List ℕ) → List Step → Type 0
AreOfParts [] steps = steps ≡ []
AreOfParts (part ∷ parts) steps =
    (first : List Step) × (others : List Step) × (steps ≡ first ++ others) × AreMade part first × AreOfParts parts others

-- a comma parts the text, and its parts, one at least, make these calls
abbrev pub AreCalls : List ℕ → List Step → Type 0
AreCalls text steps =
    (part : List ℕ) × (parts : List (List ℕ)) × (text ≡ join_by (λ part. part) (codes ", ") (part ∷ parts))
    × AreOfParts (part ∷ parts) steps

-- ---- the whole row

abbrev pub last_word : Bool → List ℕ
last_word repeats = if repeats then codes ", repeat" else []

-- nothing, or a blank, calls, and perhaps `repeat`
abbrev pub IsBehindColon : List ℕ → List Step → Bool → Type 0
IsBehindColon text steps repeats =
    ((text ≡ []) × (steps ≡ []) × (repeats ≡ false))
    ⊎ ((calls : List ℕ) × (text ≡ codes " " ++ calls ++ last_word repeats) × AreCalls calls steps)

-- the text is this row, of which no call was made
abbrev pub IsRow : List ℕ → Rule → Type 0
IsRow text rule =
    (stimulus : List ℕ) × (behind : List ℕ) × (text ≡ stimulus ++ codes ":" ++ behind)
    × IsStimulus stimulus rule.trigger × IsBehindColon behind rule.steps rule.repeats × (rule.place ≡ 0)
