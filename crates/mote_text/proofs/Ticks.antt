-- A number below 2 ^ 32 is read as it is written, and so is a tick's line.
use Rattle.std.proofs.Common.{◌≡◌, ◌<◌, ◌≤◌, ◌+◌, ◌^◌, ◌==◌, le-ltb, Bool, true, false, not, ◌&&◌, ℕ, zero, suc, List, ◌∷◌, ◌++◌, length, slice_get, decimal, codes, get_or, take, nat_lt, Some, refl, sym, ap, ◌∙◌, arith, []}
use Rattle.mote_text.proofs.Common.{is_ascii_digit, list_all, digits_value, nat_tests, Input, is_number, read_number, read_line, argument_of, length-take}
use Rattle.mote_text.specs.Code.LineAnswers.{IsTickLine}
use Rattle.mote_text.specs.Code.Lines.{has_no_end}
use Rattle.std.proofs.lemmas.List.{take_more}
use Rattle.std.proofs.lemmas.Option.{slice_get_within, get_or_from_slice_get}
use Rattle.std.proofs.lemmas.Fmt.{digits_decimal, digits_value-decimal, decimal-digits_value, decimal_nonempty, decimal_digit, first_decimal}
use Rattle.mote_text.proofs.Digits.{all_weaker, digits_are_numerals}

abbrev has_leading_zero : List ℕ → Bool
has_leading_zero text = nat_lt 1 (length text) && get_or text 0 0 == 48

no_leading_zero : (n : ℕ) → n < 2 ^ 64 → has_leading_zero (decimal n) ≡ false
no_leading_zero zero small = rw (decimal_digit 0 (omega arith))
no_leading_zero (suc n) small = grind (arith, first_decimal)

is_read : (text : List ℕ) → 0 < length text → list_all is_ascii_digit text ≡ true → has_leading_zero text ≡ false
    → digits_value 10 text < 2 ^ 32 →
    read_number text ≡ Some (digits_value 10 text)
is_read text some digits first small = grind arith

pub read_tick_text : (text : List ℕ) (n : ℕ) → length text ≤ 1000 → read_number text ≡ Some n
    → read_line (codes "tick " ++ text) ≡ Some (Some (Input.Tick n))
unfolding read_line
read_tick_text text n short reads = grind (arith, nat_tests, le-ltb)

module _ (text : List ℕ) (n : ℕ) where
  read_parts : (is_read : Bool) → (is_number text && nat_lt (digits_value 10 text) (2 ^ 32)) ≡ is_read → read_number text ≡ Some n
      → (0 < length text) × (list_all is_ascii_digit text ≡ true) × (get_or text 0 0 ≡ 48 → length text ≡ 1)
      × (digits_value 10 text ≡ n) × (n < 2 ^ 32)
  read_parts false test reads = absurd (grind arith)
  read_parts true test reads =
      let value : digits_value 10 text ≡ n = cc (rw test at reads) in (
        grind (arith, nat_tests),
        grind (arith, nat_tests, test),
        λ zero. grind (arith, nat_tests, test),
        value,
        grind (arith, nat_tests, test, value),
      )

  pub digits_of_read : read_number text ≡ Some n → list_all is_ascii_digit text ≡ true
  digits_of_read reads = (read_parts _ refl reads).1

  pub decimal_of_read : read_number text ≡ Some n → text ≡ decimal n
  decimal_of_read reads =
      let parts = read_parts _ refl reads in
      sym (decimal-digits_value digits_are_numerals text parts.1 parts.0 parts.2 (omega (arith, parts.4))) ∙ ap decimal parts.3

-- a line `tick N` at the start of a piece

number_ends_no_line : (text : List ℕ) (n : ℕ) → read_number text ≡ Some n → has_no_end text ≡ true
number_ends_no_line text n reads =
    all_weaker is_ascii_digit (λ byte. not (byte == 10)) text (λ byte is. grind arith) (digits_of_read text n reads)

module _ (n : ℕ) where
  pub read_decimal : n < 2 ^ 32 → read_number (decimal n) ≡ Some n
  read_decimal small = grind (
    arith,
    nat_tests,
    digits_value-decimal,
    digits_are_numerals,
    is_read,
    decimal_nonempty,
    digits_decimal,
    no_leading_zero,
  )

  take_word : (text : List ℕ) → take (5 + n) (codes "tick " ++ text) ≡ codes "tick " ++ take n text
  take_word text = grind arith

tick_line : (text : List ℕ) (n number : ℕ) → n ≤ 8 → slice_get text n ≡ Some 10 → read_number (take n text) ≡ Some number →
    IsTickLine (codes "tick " ++ text) (5 + n) (Input.Tick number)
tick_line text n number short ended reads =
    let inside : n < length text = slice_get_within text n 10 ended in
    let front = take_word n text in
    let more : 5 + n + 1 ≡ 5 + (n + 1) = omega arith in
    let longer : take (5 + n + 1) (codes "tick " ++ text) ≡ codes "tick " ++ take (n + 1) text =
    grind (arith, codes, take_word) in
    let end = get_or_from_slice_get text n 10 0 ended in
    let last : take (n + 1) text ≡ take n text ++ 10 ∷ [] = grind (arith, take_more) in
    record {
      line = grind arith;
      size = omega arith;
      narrow = omega arith;
      endless = ap has_no_end front ∙ number_ends_no_line (take n text) number reads;
      says = ap read_line front ∙ read_tick_text (take n text) number (omega (arith, length-take n text)) reads;
      tick = (number, refl);
    }

pub tick_at : (piece text : List ℕ) (n number : ℕ) {input : Input} → input ≡ Input.Tick number
    → argument_of (codes "tick ") piece ≡ Some text → n ≤ 8 → slice_get text n ≡ Some 10
    → read_number (take n text) ≡ Some number →
    IsTickLine piece (5 + n) input
tick_at piece text n number is begins short ended reads =
    let piece_is : piece ≡ codes "tick " ++ text =
    grind arith in
    rw (piece_is, is) (tick_line text n number short ended reads)
