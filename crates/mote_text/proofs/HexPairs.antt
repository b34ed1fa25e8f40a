-- What hex digits decode to, by their values.
use Rattle.std.proofs.Common.{◌≡◌, ◌+◌, ◌*◌, ◌%◌, ◌<◌, ◌≤◌, ◌∙◌, ℕ, List, Option, Some, None, unwrap_or, Result, Ok, Err, ap, drop, inl, inr, length, refl, slice_index, slice_set, take, arith}
use Rattle.std.proofs.lemmas.Nat.{le_or_l, le_or_r, or_lt}
use Rattle.std.specs.Int.Bits.{bit_or}
use Rattle.std.specs.Result.{result_ok}
use Rattle.hex.proofs.Pairs.{decode_done, decode_err, decode_step, prepend}
use Rattle.hex.specs.declared.error.FromHexError.{FromHexError}
use Rattle.hex.specs.declared.error.FromHexError.TheVariants.{InvalidHexCharacter}
use Rattle.mote_text.specs.Code.HexDigits.{IsReadTo, read_onto, value_or_none}
use Rattle.mote_text.proofs.Common.{cases_lt, decode_pairs, hex_digit_value, pair_value}

module _ (high low i : ℕ) where
  -- two values make a byte if no bit above the fourth is set, otherwise a fault
  abbrev Reads : ℕ → ℕ → Type 0
  Reads h l = (bit_or h l < 16 → pair_value high low i ≡ Ok (h * 16 + l))
      × (16 ≤ bit_or h l → (fault : FromHexError) × (pair_value high low i ≡ Err fault))

  small : (digit v : ℕ) → hex_digit_value digit ≡ Some v → v < 16
  small digit v is = grind arith

  by : (h l : Option ℕ) → hex_digit_value high ≡ h → hex_digit_value low ≡ l → Reads (unwrap_or h 255) (unwrap_or l 255)
  by (Some h) (Some l) is_h is_l = (
    λ _. rw (is_h, is_l) refl,
    λ large. absurd (omega (arith, large, or_lt 4 h l (small high h is_h) (small low l is_l))),
  )
  by (Some h) None is_h is_l = (
    λ few. absurd (omega (arith, few, le_or_r h 255)),
    λ _. (InvalidHexCharacter low (i + 1), rw (is_h, is_l) refl),
  )
  by None l is_h is_l = (
    λ few. absurd (omega (arith, le_or_l 255 (unwrap_or l 255))),
    λ _. (InvalidHexCharacter high i, rw is_h refl),
  )

  pub pair_read : (h l : ℕ) → h ≡ value_or_none high → l ≡ value_or_none low → Reads h l
  pair_read h l is_h is_l = rw (is_h, is_l) (by (hex_digit_value high) (hex_digit_value low) refl refl)

-- no bit of the two values is lost
whole : (high low : ℕ) → high < 16 → low < 16 → (high * 16 % 256 + low) % 256 ≡ high * 16 + low
whole high low small_high small_low = omega arith

second_is_large : (a b : ℕ) → a < 16 → 16 ≤ bit_or a b → 16 ≤ b
second_is_large a b few large = elim (cases_lt b 16) [
  | inl small ↦ omega (arith, or_lt 4 a b few small)
  | inr over ↦ over
]

is_prepend : (front : List ℕ) (rest : Result (List ℕ) FromHexError) → read_onto front rest ≡ prepend front rest
is_prepend front (Ok bytes) = refl
is_prepend front (Err fault) = refl

module _ (digits place : List ℕ) where
  module _ (i bits : ℕ) where
    -- in the form of `decode_step`
    read_so_far : IsReadTo digits place i bits → bits < 16
        → decode_pairs 0 digits ≡ prepend (take i place) (decode_pairs (2 * i) (drop (2 * i) digits))
    read_so_far read few = read.0 few ∙ is_prepend (take i place) (decode_pairs (2 * i) (drop (2 * i) digits))

    module _ (h l : ℕ) (inside : 2 * i + 1 < length digits) (room : i < length place) where
      pub read_more : h ≡ value_or_none (slice_index digits (2 * i)) → l ≡ value_or_none (slice_index digits (2 * i + 1))
          → IsReadTo digits place i bits →
          IsReadTo digits (slice_set place i ((h * 16 % 256 + l) % 256)) (i + 1) (bit_or bits (bit_or h l))
      read_more is_h is_l read =
          let pair = pair_read (slice_index digits (2 * i)) (slice_index digits (2 * i + 1)) (2 * i) h l is_h is_l in (
            λ few.
                let both : bit_or h l < 16 = omega (arith, few, le_or_r bits (bit_or h l)) in
                rw (is_prepend, (whole h l (omega (arith, both, le_or_l h l)) (omega (arith, both, le_or_r h l))))
                (decode_step digits place i (h * 16 + l) inside room (pair.0 both)
                (read_so_far read (omega (arith, few, le_or_l bits (bit_or h l))))),
            λ large.
                elim (cases_lt bits 16) [
                  | inr before ↦ read.1 before
                  | inl before ↦
                      let bad = pair.1 (second_is_large bits (bit_or h l) before large) in
                      ap result_ok (decode_err digits place i bad.0 inside bad.1 (read_so_far read before))
                ],
          )

    pub read_all : length place ≤ i → length digits ≤ 2 * i → IsReadTo digits place i bits → bits < 16 → decode_pairs 0 digits ≡ Ok place
    read_all end last read few = decode_done digits place i end last (read_so_far read few)
