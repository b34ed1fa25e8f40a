use Rattle.std.proofs.Common.{◌≡◌, ℕ, Bool, ◌+◌, ◌*◌, ◌^◌, ◌<◌, ◌≤◌, false, cond, ◌&&◌, nat_lt, List, length, get_or, take, Some, None, arith}
use Rattle.mote_text.proofs.Common.{list_all, is_ascii_digit, digits_value, and_right, digit_value, take_all, list_all_more, and_from, cond-true, digits_value-take-le}
use Rattle.std.proofs.lemmas.Int.Digits.{digits_value_more}
use Rattle.std.proofs.lemmas.List.Folds.{list_all_at}
use Rattle.mote_text.proofs.script.read_digits.Goals as goal

module _ (digits : List ℕ) where
  abbrev is_written : Bool
  is_written = list_all is_ascii_digit digits && nat_lt (digits_value 10 digits) (2 ^ 32)

  none_written : is_written ≡ false →
      None ≡ cond is_written (Some (digits_value 10 digits)) None
  none_written e = grind arith

  -- if the first digits don't fit, the whole number doesn't
  too_large : (i : ℕ) → i < length digits →
      2 ^ 32 ≤ digits_value 10 (take i digits) * 10 + digit_value (get_or digits i 0) → is_written ≡ false
  too_large i inside large =
      grind (arith, and_right, digits_value, digits_value_more, digits_value-take-le 10 digits (i + 1) (omega arith))

pub returns-then-not-is_ascii_digit : goal.returns-then-not-is_ascii_digit
returns-then-not-is_ascii_digit c = grind (arith, list_all_at, none_written)

pub returns-in_err-checked_mul : goal.returns-in_err-checked_mul
returns-in_err-checked_mul c = grind (arith, digits_value, none_written, too_large)

pub returns-in_err-number : goal.returns-in_err-number
returns-in_err-number c = grind (arith, digit_value, digits_value, none_written, too_large)

pub loop-byte-preserved : goal.loop-byte-preserved
loop-byte-preserved c =
    let digits = c.args.digits.now in
    let next = digits_value_more 10 digits c.loop-byte.byte-index c.loop-byte-test.true in
    let more = list_all_more is_ascii_digit digits c.loop-byte.byte-index 0 c.loop-byte-test.true in grind arith

pub returns : goal.returns
returns c = grind (arith, take_all, digits_value, list_all, is_ascii_digit, and_from, cond-true)
