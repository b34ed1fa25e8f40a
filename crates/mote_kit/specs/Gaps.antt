-- Texts of which parts are left out, as lists of lines.
use Rattle.std.specs.Prelude.{◌≡◌, ◌⊎◌, ℕ, List, [], ◌∷◌, ◌++◌, map, codes}
use denote.Ref.{Bor}

-- the bytes of each line
abbrev pub texts : List (Bor (List ℕ)) → List (List ℕ)
texts lines = map (λ line. line.now) lines

-- the line that matches any lines
abbrev pub gap : List ℕ
gap = codes "..."

-- a line of the expected text matches itself, and `...` any lines, none included
abbrev pub Matches : List ℕ → List (List ℕ) → Type 0
Matches line part = (line ≡ gap) ⊎ (part ≡ line ∷ [])

-- the found text is what the lines of the expected one match, one after the other
abbrev pub Fits : List (List ℕ) → List (List ℕ) → Type 0
Fits [] found = found ≡ []
Fits (line ∷ wanted) found =
    (part : List (List ℕ)) × (rest : List (List ℕ)) × (found ≡ part ++ rest) × Matches line part × Fits wanted rest
