-- What is wrong with the letters of a line.
use Rattle.std.specs.Prelude.{◌≡◌, ◌≢◌, ◌-◌, ◌==◌, ◌∷◌, [], ℕ, List, Option, true, false, get_or, length, codes, slice_get}
use Rattle.std.specs.List.{list_any, slice_split, starts_with}
use Rattle.std.specs.Str.Iter.{HasSubslice}
use lib.Dec.{eqb}
use Rattle.mote_kit.specs.declared.run_file.flaw.Flaw.{Flaw}

-- the line of a number, from 1 on
abbrev pub line_of : List ℕ → ℕ → Option (List ℕ)
line_of text number = slice_get (slice_split (λ b. eqb b 10) text) (number - 1)

-- the last byte of a line, or 0
abbrev pub last_byte : List ℕ → ℕ
last_byte line = get_or line (length line - 1) 0

-- a line has a flaw; of the commas in a list of calls only that there is a comma
abbrev pub HasFlaw : List ℕ → Flaw → Type 0
HasFlaw line Flaw.ByteOrderMark = starts_with eqb line (239 ∷ 187 ∷ 191 ∷ []) ≡ true
HasFlaw line Flaw.ByteZero = list_any (λ byte. byte == 0) line ≡ true
HasFlaw line Flaw.WindowsEnd = last_byte line ≡ 13
HasFlaw line Flaw.SpaceAtStart = get_or line 0 0 ≡ 32
HasFlaw line Flaw.Tab = list_any (λ byte. byte == 9) line ≡ true
HasFlaw line Flaw.Quote = list_any (λ byte. byte == 34) line ≡ true
HasFlaw line Flaw.NoLastCall = list_any (λ byte. byte == 44) line ≡ true
HasFlaw line Flaw.SpaceBeforeComma = HasSubslice line (codes " ,")
HasFlaw line Flaw.NoSpaceAfterComma = list_any (λ byte. byte == 44) line ≡ true
HasFlaw line Flaw.TwoSpaces = HasSubslice line (codes "  ")
HasFlaw line Flaw.SpaceAtEnd = last_byte line ≡ 32

-- a line has no flaw of its bytes
abbrev pub HasCleanBytes : List ℕ → Type 0
HasCleanBytes line = (starts_with eqb line (239 ∷ 187 ∷ 191 ∷ []) ≡ false) × (list_any (λ byte. byte == 0) line ≡ false) × (last_byte line ≢ 13)
    × (get_or line 0 0 ≢ 32) × (list_any (λ byte. byte == 9) line ≡ false) × (list_any (λ byte. byte == 34) line ≡ false)

-- a line has no flaw of its spaces
abbrev pub HasCleanSpaces : List ℕ → Type 0
HasCleanSpaces line = (HasSubslice line (codes "  ") → ⊥) × (last_byte line ≢ 32)
