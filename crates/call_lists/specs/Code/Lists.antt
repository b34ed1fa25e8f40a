-- A list of calls that fills from its front.
use Rattle.std.specs.Prelude.{◌≡◌, ◌≤◌, ◌<◌, ◌+◌, ◌⊎◌, ℕ, List, [], ◌++◌, length, take, drop, flat_map, codes, decimal, Option, Some, None}
use Rattle.mote_types.specs.declared.call.Call.{Call}
use denote.Ref.{Bor}
use Rattle.call_lists.specs.Calls.{AreMade, AreOfParts}
use Rattle.call_lists.specs.Ranges.{ArePossible}

-- a text without the number before it, and that number, which isn't 0, or the text itself, and 1
abbrev pub IsCounted : List ℕ → ℕ → List ℕ → Type 0
IsCounted text count rest = ((count ≡ 1) × (rest ≡ text)) ⊎ ((0 < count) × (text ≡ decimal count ++ codes " " ++ rest))

-- what follows a part, with the comma before it
abbrev pub behind_comma : Option (Bor (List ℕ)) → List ℕ
behind_comma None = []
behind_comma (Some others) = codes ", " ++ others.now

-- these parts, each with a comma before it
abbrev pub behind_commas : List (List ℕ) → List ℕ
behind_commas parts = flat_map (λ part. codes ", " ++ part) parts

-- these are of the parts of a text in which a comma is before each
abbrev pub AreBehind : {T : Type 0} → (List (List ℕ) → List T → Type 0) → List ℕ → List T → Type 0
AreBehind AreOf text made = (parts : List (List ℕ)) × (text ≡ behind_commas parts) × AreOf parts made

-- these are the calls of a text's parts, of which there is one at least
abbrev pub AreOfText : List ℕ → List Call → Type 0
AreOfText text made = AreBehind AreOfParts (codes ", " ++ text) made

-- from the position up to the end these calls are there now; the others are unchanged
pub record ArePut (made : List Call) (place end : ℕ) (old new : List Call) : Type 0 where
  pub is_end : end ≡ place + length made
  pub fits : end ≤ length new
  pub front : take end new ≡ take place old ++ made
  pub others : drop end new ≡ drop end old
  pub is_long : length new ≡ length old

-- so do those that a part makes
pub record IsPartPut (part : List ℕ) (place end : ℕ) (old new : List Call) : Type 0 where
  pub made : List Call
  pub are_made : AreMade part made
  pub put : ArePut made place end old new

-- possible calls, made of such a text, which fill a list from a position on and not beyond its end
abbrev pub HasCalls : List ℕ → ℕ → ℕ → Type 0
HasCalls text place end = (made : List Call) × ArePossible made × AreBehind AreOfParts text made × (place + length made ≤ end)
