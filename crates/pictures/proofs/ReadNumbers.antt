-- A number is read exactly as it is written.
use Rattle.std.proofs.Common.{◌≡◌, ◌≢◌, ◌∙◌, ◌<◌, ◌^◌, Bool, true, false, ◌&&◌, ℕ, zero, suc, List, length, get_or, decimal, nat_lt, Result, Ok, Err, Some, None, refl, sym, ap, arith, rules}
use Rattle.std.proofs.lemmas.Bool.Decides.{nat_tests}
use Rattle.std.proofs.lemmas.Fmt.{decimal-digits_value, decimal_digit, decimal_nonempty, digits_decimal, digits_value-decimal, first_decimal}
use Rattle.std.proofs.lemmas.Str.Parse.{IsNumeralModel, not_in_digits, numerals_by_value, parse_digits}
use Rattle.std.specs.Char.{is_ascii_digit}
use Rattle.std.specs.Int.{IsInRange}
use Rattle.std.specs.List.{list_all}
use Rattle.std.specs.Result.{result_ok}
use Rattle.std.specs.Str.Parse.{digits_value, ParsesUnsigned}
use Rattle.pictures.specs.Transcript.Words.{has_leading_zero, is_number, read_number}

digits_are_numerals : IsNumeralModel (λ ds. list_all is_ascii_digit ds ≡ true) (digits_value 10)
digits_are_numerals = numerals_by_value _ (search rules)

-- too many digits make no number
refused : (text : List ℕ) (is_read : Bool) → (is_number text && nat_lt (digits_value 10 text) (2 ^ 64)) ≡ is_read
    → ((0 < length text) × (digits_value 10 text < 2 ^ 64) → ⊥)
    → None ≡ read_number text
refused text false test lacks = rw test refl
refused text true test lacks = grind arith

pub parsed : {E : Type 0} (text : List ℕ) (r : Result ℕ E) → list_all is_ascii_digit text ≡ true → has_leading_zero text ≡ false
    → ParsesUnsigned 64 10 text r → result_ok r ≡ read_number text
parsed {E} text (Ok n) digits first reads = grind arith
parsed {E} text (Err e) digits first reads =
    refused text (is_number text && nat_lt (digits_value 10 text) (2 ^ 64)) refl
    (parse_digits digits_are_numerals {E = E} 64 text (Err e) reads digits)

module _ (text : List ℕ) where
  module _ (n : ℕ) where
    read_from : (is_read : Bool) → (is_number text && nat_lt (digits_value 10 text) (2 ^ 64)) ≡ is_read
        → read_number text ≡ Some n → text ≡ decimal n
    read_from false test reads = grind arith
    read_from true test reads =
        let value : digits_value 10 text ≡ n = cc (rw test at reads) in
        let digits : list_all is_ascii_digit text ≡ true = grind (arith, test) in
        let small : digits_value 10 text < 2 ^ 64 = grind (arith, nat_tests, test) in
        sym (decimal-digits_value digits_are_numerals text digits (grind (arith, nat_tests, test))
        (λ zero. grind (arith, nat_tests, test, zero)) small) ∙ ap decimal value

    small_from : (is_read : Bool) → (is_number text && nat_lt (digits_value 10 text) (2 ^ 64)) ≡ is_read
        → read_number text ≡ Some n → nat_lt n (2 ^ 64) ≡ true
    small_from false test reads = grind arith
    small_from true test reads =
        let value : digits_value 10 text ≡ n = cc (rw test at reads) in
        grind (arith, nat_tests, test, value)

    -- it has 64 bits
    pub small_of_read : read_number text ≡ Some n → nat_lt n (2 ^ 64) ≡ true
    small_of_read reads = small_from (is_number text && nat_lt (digits_value 10 text) (2 ^ 64)) refl reads

    pub decimal_of_read : read_number text ≡ Some n → text ≡ decimal n
    decimal_of_read reads = read_from (is_number text && nat_lt (digits_value 10 text) (2 ^ 64)) refl reads

no_leading_zero : (n : ℕ) → n < 2 ^ 64 → has_leading_zero (decimal n) ≡ false
no_leading_zero zero small = rw (decimal_digit 0 (omega arith))
no_leading_zero (suc n) small = grind (arith, first_decimal)

is_read : (text : List ℕ) → 0 < length text → list_all is_ascii_digit text ≡ true → has_leading_zero text ≡ false
    → digits_value 10 text < 2 ^ 64 → read_number text ≡ Some (digits_value 10 text)
is_read text some digits first small = grind arith

module _ (n : ℕ) (small : n < 2 ^ 64) where
  pub read_decimal : read_number (decimal n) ≡ Some n
  read_decimal =
      let value = digits_value-decimal digits_are_numerals n small in
      is_read (decimal n) (decimal_nonempty n small) (digits_decimal digits_are_numerals n small) (no_leading_zero n small)
      (omega (arith, value, small))
      ∙ ap (λ number. Some number) value

  -- no other byte is in it
  pub not_in_decimal : (byte : ℕ) → (IsInRange 48 57 byte → ⊥) → (at : ℕ) → at < length (decimal n) → get_or (decimal n) at 0 ≢ byte
  not_in_decimal byte other =
      not_in_digits digits_are_numerals (decimal n) byte (digits_decimal digits_are_numerals n small) other
