-- The tables of hex digits.
use Rattle.std.specs.Prelude.{◌≡◌, ◌+◌, ◌*◌, ◌/◌, ◌%◌, ◌<◌, ◌≤◌, ◌++◌, ℕ, List, None, Result, Ok, Err, drop, slice_index, take, unwrap_or}
use Rattle.std.specs.Result.{result_ok}
use Rattle.hex.specs.Hex.{decode_pairs, hex_digit_value, lower_digits}
use Rattle.hex.specs.declared.error.FromHexError.{FromHexError}

-- at twice each byte are its two digits, the high four bits first
abbrev pub PairsOfDigits : List ℕ → Type 0
PairsOfDigits text =
    (byte : ℕ) → byte < 256 →
    (slice_index text (2 * byte) ≡ slice_index lower_digits (byte / 16))
    × (slice_index text (2 * byte + 1) ≡ slice_index lower_digits (byte % 16))

-- what a digit of either case is worth; 255, where a byte is none
abbrev pub value_or_none : ℕ → ℕ
value_or_none digit = unwrap_or (hex_digit_value digit) 255

-- the value of each byte is at its index
abbrev pub ValuesOfDigits : List ℕ → Type 0
ValuesOfDigits values = (digit : ℕ) → digit < 256 → slice_index values digit ≡ value_or_none digit

-- bytes, and those that a rest has after them
abbrev pub read_onto : List ℕ → Result (List ℕ) FromHexError → Result (List ℕ) FromHexError
read_onto front (Ok rest) = Ok (front ++ rest)
read_onto front (Err fault) = Err fault

-- the bytes before a position are read, while the bits of their digits' values are below 16; otherwise nothing is
abbrev pub IsReadTo : List ℕ → List ℕ → ℕ → ℕ → Type 0
IsReadTo digits place at bits =
    (bits < 16 → decode_pairs 0 digits ≡ read_onto (take at place) (decode_pairs (2 * at) (drop (2 * at) digits)))
    × (16 ≤ bits → result_ok (decode_pairs 0 digits) ≡ None)
