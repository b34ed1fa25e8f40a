-- Rows: each has some consecutive lines of a transcript.
use Rattle.std.specs.Prelude.{◌≡◌, ⊤, ℕ, ◌+◌, ◌-◌, ◌<◌, ◌≤◌, List, [], ◌∷◌, map, slice_index_or}
use denote.Ref.{Bor}
use Rattle.pictures.specs.declared.rows.row.Row.{Row}
use Rattle.pictures.specs.declared.rows.row.Show.{Show}

-- the rows have the lines from the one to the other: each line is in one row, and they follow one another in order
abbrev pub Cover : ℕ → List Row → ℕ → Type 0
Cover first [] end = first ≡ end
Cover first (row ∷ rows) end = (row.first ≡ first) × (0 < row.count) × Cover (first + row.count) rows end

-- a row of one line, which is not folded
abbrev pub IsPlain : Row → Type 0
IsPlain row = (row.count ≡ 1) × (row.show ≡ Show.Lines)

-- the bytes of each line
abbrev pub bytes_of : List (Bor (List ℕ)) → List (List ℕ)
bytes_of lines = map (λ line. line.now) lines

abbrev pub text_at : List (List ℕ) → ℕ → List ℕ
text_at lines index = slice_index_or lines index []

-- each line from the first position to the end is the one n lines before it
abbrev pub AreAgain : List (List ℕ) → ℕ → ℕ → ℕ → Type 0
AreAgain lines period first end = (index : ℕ) → first ≤ index → index < end → text_at lines index ≡ text_at lines (index - period)

-- lines that are shown as being there again are there again
abbrev pub AreAsShown : List (List ℕ) → ℕ → ℕ → Show → Type 0
AreAsShown lines first end (Show.Again period) = AreAgain lines period first end
AreAsShown lines first end show = ⊤

abbrev pub IsTrueRow : List (List ℕ) → Row → Type 0
IsTrueRow lines row = AreAsShown lines row.first (row.first + row.count) row.show
