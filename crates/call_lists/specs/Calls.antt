-- Which calls a text makes.
use Rattle.std.specs.Prelude.{◌≡◌, ◌<◌, ◌⊎◌, ⊤, ℕ, ◌+◌, ◌&&◌, nat_le, if◌then◌else◌, List, [], ◌∷◌, ◌++◌, length, map, codes, decimal}
use Rattle.std.specs.List.{All, join_by}
use Rattle.mote_text.specs.EntryText.{Word, call_words}
use Rattle.call_lists.specs.Spaced.{spaced}
use Rattle.mote_types.specs.declared.call.Call.{Call}

-- the digits A to F in lower case, and all other text unchanged
abbrev pub hex_lowered : List ℕ → List ℕ
hex_lowered text = map (λ c. if nat_le 65 c && nat_le c 70 then c + 32 else c) text

-- the text is the first of these words, and after it the others, with hex digits of either case
abbrev pub HasWords : List ℕ → List Word → Type 0
HasWords text [] = ⊥
HasWords text (name ∷ arguments) = (rest : List ℕ) × (text ≡ name ++ rest) × (hex_lowered rest ≡ spaced arguments)

-- the text has the words of this call, as a transcript shows them
abbrev pub IsCall : List ℕ → Call → Type 0
IsCall text call = HasWords text (call_words call)

-- so it is of each of these
abbrev pub AreCalls : List ℕ → List Call → Type 0
AreCalls text [] = ⊤
AreCalls text (call ∷ calls) = IsCall text call × AreCalls text calls

-- the text is a call that is made once, or a call after a number n, from 1 on, that is made n times
abbrev pub AreMade : List ℕ → List Call → Type 0
AreMade text calls =
    ((length calls ≡ 1) × AreCalls text calls)
    ⊎ ((rest : List ℕ) × (0 < length calls) × (text ≡ decimal (length calls) ++ codes " " ++ rest) × AreCalls rest calls)

-- the calls are those of the parts, in their order
abbrev pub AreOfParts : List (List ℕ) → List Call → Type 0
AreOfParts [] calls = calls ≡ []
AreOfParts (part ∷ parts) calls =
    (first : List Call) × (others : List Call) × (calls ≡ first ++ others) × AreMade part first × AreOfParts parts others

abbrev pub AreWaits : List Call → Type 0
AreWaits calls = All (λ call. call ≡ Call.Wait) calls

-- commas divide the text, and its parts make these calls; those after them only wait
pub record IsListOf (text : List ℕ) (calls : List Call) : Type 0 where
  pub parts : List (List ℕ)
  pub made : List Call
  pub waits : List Call
  pub is_text : text ≡ join_by (λ part. part) (codes ", ") parts
  pub are_of_parts : AreOfParts parts made
  pub are_calls : calls ≡ made ++ waits
  pub are_waits : AreWaits waits
