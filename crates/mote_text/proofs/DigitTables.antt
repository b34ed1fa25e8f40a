-- Tables of hex digits.
use Rattle.std.proofs.Common.{◌≡◌, ◌+◌, ◌*◌, ◌/◌, ◌%◌, ◌<◌, ℕ, zero, suc, List, ◌∷◌, length, slice_index, Ok, Bool, true, ◌==◌, codes, get_or, set, replicate, add-one, refl, ap, ◌∙◌, arith, []}
use Rattle.hex.proofs.OnLiterals.{hex_on_literals}
use Rattle.hex.specs.Hex.{decode_sized}
use Rattle.mote_text.specs.Code.HexDigits.{ValuesOfDigits, value_or_none}
use Rattle.std.proofs.lemmas.Bool.{eqb-true}
use Rattle.mote_text.proofs.Common.{encode_with}
use Rattle.mote_text.proofs.EachByte.{holds_at, holds_below}

-- the positions of a byte's two digits
pub encode_with-at : (table bytes : List ℕ) (i : ℕ) → i < length bytes →
    (slice_index (encode_with table bytes) (2 * i) ≡ slice_index table (slice_index bytes i / 16)) ×
    (slice_index (encode_with table bytes) (2 * i + 1) ≡ slice_index table (slice_index bytes i % 16))
unfolding encode_with
encode_with-at table [] i inside = absurd (omega arith)
encode_with-at table (byte ∷ rest) zero inside = (refl, refl)
encode_with-at table (byte ∷ rest) (suc i) inside =
    let later = encode_with-at table rest i (omega arith) in
    let high : 2 * suc i ≡ suc (suc (2 * i)) = omega arith in
    let low : 2 * suc i + 1 ≡ suc (suc (2 * i + 1)) = omega arith in (
      ap (slice_index (encode_with table (byte ∷ rest))) high ∙ later.0,
      ap (slice_index (encode_with table (byte ∷ rest))) low ∙ later.1,
    )

-- the table of values, filled digit by digit

-- the digits of both cases, each after a 0, and their values
abbrev pub digits_after_zeros : List ℕ
digits_after_zeros = codes "000102030405060708090a0b0c0d0e0f0A0B0C0D0E0F"

abbrev pub digits_worth : List ℕ
digits_worth = 0 ∷ 1 ∷ 2 ∷ 3 ∷ 4 ∷ 5 ∷ 6 ∷ 7 ∷ 8 ∷ 9 ∷ 10 ∷ 11 ∷ 12 ∷ 13 ∷ 14 ∷ 15 ∷ 10 ∷ 11 ∷ 12 ∷ 13 ∷ 14 ∷ 15 ∷ []

pub digits_read : decode_sized digits_after_zeros 22 ≡ Ok digits_worth
unfolding hex_on_literals
digits_read = refl

unfoldable pub filled : ℕ → List ℕ
filled zero = replicate 256 255
filled (suc n) = set (filled n) (get_or digits_after_zeros (2 * n + 1) 0) (get_or digits_worth n 0)

abbrev is_right : ℕ → Bool
is_right digit = slice_index (filled 22) digit == value_or_none digit

all_right : holds_below is_right 256 ≡ true
unfolding filled
all_right = refl

pub filled_right : ValuesOfDigits (filled 22)
filled_right digit below = eqb-true _ _ (holds_at is_right 256 digit all_right below)

pub filled_start : filled 0 ≡ replicate 256 255
unfolding filled
filled_start = refl

pub filled_more : (n : ℕ) → filled (n + 1) ≡ set (filled n) (get_or digits_after_zeros (2 * n + 1) 0) (get_or digits_worth n 0)
unfolding filled
filled_more n = rw add-one refl
