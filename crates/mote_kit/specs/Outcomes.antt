-- What a file says of the outcome of a run.
use Rattle.std.specs.Prelude.{◌≡◌, ◌⊎◌, ℕ, List, [], Option, IfSome, string_bytes}
use Rattle.std.specs.Str.{IsUtf8}
use Rattle.std.specs.Str.Lines.{lines}
use denote.Ref.{Bor}
use Rattle.mote_kit.specs.Gaps.{Fits}
use Rattle.mote_kit.specs.declared.run_file.outcome.Outcome.{Outcome}

-- these bytes as a text; one that isn't UTF-8 is empty
abbrev pub IsText : List ℕ → List ℕ → Type 0
IsText bytes text = (IsUtf8 bytes × (text ≡ bytes)) ⊎ ((IsUtf8 bytes → ⊥) × (text ≡ []))

-- a transcript is the expected one, byte by byte or where parts are left out
abbrev pub HasTranscript : List ℕ → List ℕ → Type 0
HasTranscript wanted found = (wanted ≡ found) ⊎ ((text : List ℕ) × IsText found text × Fits (lines wanted) (lines text))

-- the outcome has the end that the file says, if it says one
abbrev pub EndsAsSaid : Option (Bor (List ℕ) × ℕ) → Outcome → Type 0
EndsAsSaid said outcome = IfSome said (λ end. string_bytes outcome.end ≡ end.0.now)
