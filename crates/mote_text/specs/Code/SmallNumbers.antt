-- The table of the numbers that most words of a transcript are.
use Rattle.std.specs.Prelude.{◌≡◌, ◌+◌, ◌*◌, ◌<◌, ◌++◌, ℕ, List, codes, decimal, drop, length, slice_index, take}

-- at eight times each number below 256 are its digits and a blank; the byte four positions later is the number of these bytes
abbrev pub HasSmallNumbers : List ℕ → Type 0
HasSmallNumbers table =
    (n : ℕ) → n < 256 →
    (take (length (decimal n) + 1) (drop (8 * n) table) ≡ decimal n ++ codes " ")
    × (slice_index table (8 * n + 4) ≡ length (decimal n) + 1)
