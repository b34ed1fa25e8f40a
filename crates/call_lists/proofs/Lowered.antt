-- Numbers and bytes with hex digits in lower case.
use Rattle.std.proofs.Common.{◌≡◌, ◌+◌, ◌*◌, ℕ, true, List, [], ◌∷◌, decimal, slice_index, Option, Some, None, Result, Ok, Err, refl, arith}
use Rattle.std.proofs.lemmas.Bool.Decides.{nat_tests}
use Rattle.std.specs.Char.{is_ascii_digit}
use Rattle.std.specs.List.{list_all}
use Rattle.hex.specs.Hex.{decode_of, decode_pairs, digit_or_error, encode_lower, encode_with, hex_digit_value, lower_digits, ◌>>=◌}
use Rattle.hex.specs.declared.error.FromHexError.{FromHexError}
use Rattle.mote_text.specs.Script.{read_number}
use Rattle.mote_text.proofs.Ticks.{decimal_of_read}
use Rattle.call_lists.specs.Calls.{hex_lowered}

digit : (c v : ℕ) → hex_digit_value c ≡ Some v → hex_lowered (c ∷ []) ≡ slice_index lower_digits v ∷ []
digit c v is = grind (arith, nat_tests)

pairs : (i : ℕ) (text bytes : List ℕ) → decode_pairs i text ≡ Ok bytes → hex_lowered text ≡ encode_lower bytes
unfolding decode_pairs encode_with
pairs i [] bytes is = cc
pairs i (high ∷ []) bytes is = cc is
pairs i (high ∷ low ∷ rest) bytes is =
    by (hex_digit_value high) (hex_digit_value low) (decode_pairs (i + 2) rest) refl refl (λ more is. pairs (i + 2) rest more is) is
  where
    by : (h l : Option ℕ) (more : Result (List ℕ) FromHexError) → hex_digit_value high ≡ h → hex_digit_value low ≡ l
        → ((bytes : List ℕ) → more ≡ Ok bytes → hex_lowered rest ≡ encode_lower bytes)
        → ((digit_or_error high i h >>= λ h. digit_or_error low (i + 1) l >>= λ l. Ok (h * 16 + l))
        >>= λ byte. more >>= λ bytes. Ok (byte ∷ bytes)) ≡ Ok bytes
        → hex_lowered (high ∷ low ∷ rest) ≡ encode_lower bytes
    by (Some h) (Some l) (Ok more) is_h is_l lowered is =
        let first = digit high h is_h in
        let second = digit low l is_l in
        grind (arith, nat_tests)
    by (Some h) (Some l) (Err fault) is_h is_l lowered is = cc is
    by (Some h) None more is_h is_l lowered is = cc is
    by None l more is_h is_l lowered is = cc is

pub lowered_hex : (text bytes : List ℕ) → decode_of text ≡ Ok bytes → hex_lowered text ≡ encode_lower bytes
lowered_hex text bytes is = grind (arith, pairs)

numeral : (text : List ℕ) → list_all is_ascii_digit text ≡ true → hex_lowered text ≡ text
numeral [] all = refl
numeral (c ∷ rest) all = grind (arith, numeral rest)

pub lowered_number : (text : List ℕ) (n : ℕ) → read_number text ≡ Some n → hex_lowered text ≡ decimal n
lowered_number text n reads = grind (arith, numeral, decimal_of_read)
