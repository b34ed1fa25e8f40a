-- Digits of many bytes.
use Rattle.std.proofs.Common.{cond, ltb, map, replicate, subst, Fits, w8, ◌≡◌, ◌+◌, ◌*◌, ◌/◌, ◌%◌, ◌<◌, ◌≤◌, ◌++◌, ◌∷◌, ◌∙◌, ℕ, zero, suc, List, Bool, true, ◌==◌, drop, length, length-take-le, sym, take, refl, ap, arith, slice_index, [], nat_lt, if◌then◌else◌}
use Rattle.std.specs.Int.Bits.{bit_or}
use Rattle.std.specs.List.{flat_map, range_with_len}
use Rattle.std.specs.Simd.Lanes.{Each1, pick_l, put_chunk, sel_l, top, zip2}
use Rattle.std.proofs.lemmas.Simd.{length-put_chunk, pick_l_whole, put_chunk_is, take_more_put_chunk}
use Rattle.std.proofs.lemmas.Bool.{eqb-true}
use Rattle.std.proofs.lemmas.List.{append_assoc, drop-drop, length-drop, take-take, take-append-le, take_all}
use Rattle.hex.proofs.HexLemmas.{length-encode_with}
use Rattle.hex.specs.Hex.{lower_digits}
use Rattle.mote_text.proofs.Common.{encode_lower, encode_with, le-ltb, lt-ltb}
use Rattle.mote_text.proofs.EachByte.{holds_at, holds_below}
use Rattle.mote_text.specs.Code.HexDigits.{value_or_none}

abbrev digit : ℕ → ℕ
digit value = slice_index lower_digits value

-- the digit of a value, as it is computed
abbrev worked_out : ℕ → ℕ
worked_out value = ((value + 48) % 256 + cond (top 7 (cond (ltb 9 value) 255 0)) 39 0) % 256

abbrev is_right : ℕ → Bool
is_right value = worked_out value == digit value

all_right : holds_below is_right 16 ≡ true
all_right = refl

right : (value : ℕ) → value < 16 → worked_out value ≡ digit value
right value few = eqb-true _ _ (holds_at is_right 16 value all_right few)

-- the digits of all bytes, as they are computed
abbrev in_turn : List ℕ → List ℕ
in_turn [] = []
in_turn (byte ∷ rest) = worked_out (byte / 16) ∷ worked_out (byte % 16) ∷ in_turn rest

all_in_turn : (bytes : List ℕ) → Each1 (Fits w8) bytes → in_turn bytes ≡ encode_lower bytes
unfolding encode_with
all_in_turn [] fits = refl
all_in_turn (byte ∷ rest) fits =
    let few = fits.0.fits in
    ap (λ high. high ∷ worked_out (byte % 16) ∷ in_turn rest) (right (byte / 16) (omega (arith, few)))
    ∙ ap (λ low. digit (byte / 16) ∷ low ∷ in_turn rest) (right (byte % 16) (omega arith))
    ∙ ap (λ later. digit (byte / 16) ∷ digit (byte % 16) ∷ later) (all_in_turn rest fits.1)

abbrev added : List ℕ → List ℕ → List ℕ
added xs ys = zip2 (λ x y. (x + y) % 256) xs ys

-- high and low halves, in turn
abbrev values : List ℕ → List ℕ
values bytes =
    pick_l 0 (zip2 (λ x y. x / y) bytes (replicate 16 16) ++ zip2 (λ x y. x % y) bytes (replicate 16 16))
    (flat_map (λ k. k ∷ (16 + k) ∷ []) (range_with_len 0 16))

-- in a vector's lanes
abbrev in_lanes : List ℕ → List ℕ
in_lanes bytes =
    added (added (values bytes) (replicate 32 48))
    (sel_l (map (top 7) (zip2 (λ x y. cond (ltb x y) 255 0) (replicate 32 9) (values bytes))) (replicate 32 39) (replicate 32 0))

pub digits_right : (bytes : List ℕ) → length bytes ≡ 16 → Each1 (Fits w8) bytes → in_lanes bytes ≡ encode_lower bytes
digits_right bytes is fits =
    subst (λ them. in_lanes them ≡ in_turn them) (pick_l_whole 0 bytes 16 is) refl ∙ all_in_turn bytes fits

-- the digits of four bytes and of four others
abbrev fours : List ℕ → List ℕ → List ℕ
fours front back = encode_lower (pick_l 0 (front ++ back) (range_with_len 0 8 ++ range_with_len 0 8))

abbrev AreFours : List ℕ → List ℕ → Type 0
AreFours front back =
    (pick_l 0 (fours front back ++ fours front back) (range_with_len 0 8) ≡ encode_lower front)
    × (pick_l 0 (fours front back ++ fours front back) (range_with_len 8 8) ≡ encode_lower back)

pub are_fours : (front back : List ℕ) → length front ≡ 4 → length back ≡ 4 → AreFours front back
unfolding encode_with
are_fours front back is_front is_back =
    subst (λ them. AreFours them back) (pick_l_whole 0 front 4 is_front)
    (subst (λ them. AreFours (pick_l 0 front (range_with_len 0 4)) them) (pick_l_whole 0 back 4 is_back) (refl, refl))

pub encode_parts : (n : ℕ) (bytes : List ℕ) → encode_lower (take n bytes) ++ encode_lower (drop n bytes) ≡ encode_lower bytes
unfolding encode_with
encode_parts zero bytes = refl
encode_parts (suc n) [] = refl
encode_parts (suc n) (byte ∷ rest) = ap (λ later. digit (byte / 16) ∷ digit (byte % 16) ∷ later) (encode_parts n rest)

double : (n : ℕ) → 2 * suc n ≡ suc (suc (2 * n))
double n = omega arith

encode_front : (n : ℕ) (bytes : List ℕ) → take (2 * n) (encode_lower bytes) ≡ encode_lower (take n bytes)
unfolding encode_with
encode_front zero bytes = refl
encode_front (suc n) [] = rw (double n) refl
encode_front (suc n) (byte ∷ rest) =
    rw (double n) (ap (λ later. digit (byte / 16) ∷ digit (byte % 16) ∷ later) (encode_front n rest))

-- the digits of the first n bytes, and of the last, which may overlap
pub both_ends : (bytes rest : List ℕ) (n last : ℕ) → last ≤ n → n ≤ length bytes →
    take (2 * last) (encode_lower (take n bytes) ++ rest) ++ encode_lower (drop last bytes) ≡ encode_lower bytes
both_ends bytes rest n last near inside =
    let size = length-encode_with lower_digits (take n bytes) in
    ap (λ front. front ++ encode_lower (drop last bytes)) (
    take-append-le (2 * last) (encode_lower (take n bytes)) rest (omega (arith, size, length-take-le n bytes inside))
    ∙ encode_front last (take n bytes) ∙ ap encode_lower (take-take last n bytes near)
    )
    ∙ encode_parts last bytes

-- as a vector stores the first, and another the last
pub ends_put : (bytes old : List ℕ) (n last : ℕ) → last + n ≡ length bytes → last ≤ n → length old ≡ 2 * length bytes →
    put_chunk (2 * last) (put_chunk 0 old (encode_lower (take n bytes))) (encode_lower (take n (drop last bytes))) ≡ encode_lower bytes
ends_put bytes old n last end near size =
    let front = encode_lower (take n bytes) in
    let back = encode_lower (drop last bytes) in
    let first = put_chunk 0 old front in
    let same = length-put_chunk 0 old front in
    let front_size : length front ≡ 2 * n =
    omega (arith, length-encode_with lower_digits (take n bytes), length-take-le n bytes (omega arith)) in
    let back_size : length back ≡ 2 * n = omega (arith, length-encode_with lower_digits (drop last bytes), length-drop last bytes) in
    rw (take_all n (drop last bytes) (omega (arith, length-drop last bytes))) (
    sym (take_all (length old) (put_chunk (2 * last) first back) (omega (arith, length-put_chunk (2 * last) first back, same)))
    ∙ take_more_put_chunk (2 * last) first back (length old) (omega (arith, back_size)) (omega (arith, same))
    ∙ ap (λ text. take (2 * last) text ++ back) (put_chunk_is 0 old front (omega (arith, front_size)))
    ∙ both_ends bytes (drop (length front) old) n last near (omega arith)
    )

-- the digits of n bytes were written from `at` on
abbrev pub Writes : List ℕ → List ℕ → List ℕ → ℕ → ℕ → Type 0
Writes bytes old new at n =
    (take (2 * at + 2 * n) new ≡ take (2 * at) old ++ encode_lower (take n (drop at bytes))) × (length new ≡ length old)

-- the bytes before `at` have their digits in `place`
abbrev pub IsWritten : List ℕ → List ℕ → ℕ → Type 0
IsWritten bytes place at = (length place ≡ 2 * length bytes) × (take (2 * at) place ++ encode_lower (drop at bytes) ≡ encode_lower bytes)

module _ (bytes old new : List ℕ) (at n : ℕ) where
  pub written_more : Writes bytes old new at n → IsWritten bytes old at → IsWritten bytes new (at + n)
  written_more writes before =
      let far : 2 * (at + n) ≡ 2 * at + 2 * n = omega arith in (
        writes.1 ∙ before.0,
        rw (far, writes.0, sym (drop-drop n at bytes)) (
            append_assoc (take (2 * at) old) (encode_lower (take n (drop at bytes))) (encode_lower (drop n (drop at bytes)))
            ∙ ap (λ rest. take (2 * at) old ++ rest) (encode_parts n (drop at bytes)) ∙ before.1
            ),
      )

  earlier : (far : ℕ) → at ≤ far → far ≤ length bytes → IsWritten bytes old far → take (2 * at) old ≡ encode_lower (take at bytes)
  earlier far before inside written =
      sym (take-take (2 * at) (2 * far) old (omega (arith, before)))
      ∙ sym (take-append-le (2 * at) (take (2 * far) old) (encode_lower (drop far bytes))
      (omega (arith, (length-take-le (2 * far) old (omega (arith, written.0, inside))), before)))
      ∙ ap (take (2 * at)) written.1 ∙ encode_front at bytes

  pub all_written : (far : ℕ) → at + n ≡ length bytes → at ≤ far → far ≤ length bytes → IsWritten bytes old far
      → Writes bytes old new at n →
      new ≡ encode_lower bytes
  all_written far end before inside written writes =
      sym (take_all (2 * at + 2 * n) new (omega (arith, writes.1, written.0, end))) ∙ writes.0
      ∙ rw ((earlier far before inside written), (take_all n (drop at bytes) (omega (arith, length-drop at bytes, end))))
      (encode_parts at bytes)

-- a digit's value, as it is read

abbrev letter_of : ℕ → ℕ
letter_of digit = (bit_or digit 32 + 159) % 256

abbrev worth : ℕ → ℕ
worth digit =
    if nat_lt ((digit + 208) % 256) 10 then (digit + 208) % 256
    else if nat_lt (letter_of digit) 6 then letter_of digit + 10
    else 255

abbrev is_worth : ℕ → Bool
is_worth digit = worth digit == value_or_none digit

all_worth : holds_below is_worth 256 ≡ true
all_worth = refl

module _ (digit : ℕ) (below : digit < 256) where
  worth_right : worth digit ≡ value_or_none digit
  worth_right = eqb-true _ _ (holds_at is_worth 256 digit all_worth below)

  module _ (no_number : 10 ≤ (digit + 208) % 256) where
    pub letter_right : letter_of digit < 6 → letter_of digit + 10 ≡ value_or_none digit
    letter_right is_letter = rw (le-ltb ((digit + 208) % 256) 10 no_number, lt-ltb (letter_of digit) 6 is_letter) at worth_right

    pub none_right : 6 ≤ letter_of digit → 255 ≡ value_or_none digit
    none_right no_letter = grind (arith, letter_of, no_letter, worth_right)
