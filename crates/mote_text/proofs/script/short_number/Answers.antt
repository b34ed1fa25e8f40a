use Rattle.std.proofs.Common.{◌≡◌, ◌*◌, ◌+◌, ◌^◌, ◌<◌, ◌≤◌, ℕ, add-one, arith}
use Rattle.std.proofs.Math.Nat.{pow-le-pow_right, pow-succ'}
use Rattle.std.proofs.lemmas.Int.Digits.{digits_value_more}
use Rattle.mote_text.proofs.Common.{is_ascii_digit, nat_tests, list_all_more}
use Rattle.mote_text.proofs.script.short_number.Goals as goal

-- nine digits fit
few_digits : (number i : ℕ) → number + 1 ≤ 10 ^ i → i < 9 → number < 100_000_000
few_digits number i below few = grind (arith, pow-le-pow_right)

pub overflow_mul-number : goal.overflow_mul-number
overflow_mul-number c =
    omega (arith, few_digits c.loop-i.number c.loop-i.i c.loop-i.invariant.2 (omega arith))

pub overflow_add-number : goal.overflow_add-number
overflow_add-number c =
    omega (arith, few_digits c.loop-i.number c.loop-i.i c.loop-i.invariant.2 (omega arith))

pub loop-i-preserved : goal.loop-i-preserved
loop-i-preserved c =
    let digits = c.args.piece.now in
    let i = c.loop-i.i in
    let next = digits_value_more 10 digits i (omega arith) in
    let more = list_all_more is_ascii_digit digits i 0 (omega arith) in
    let small : c.from.result ≤ 9 = grind (arith, nat_tests) in
    let power : 10 ^ (i + 1) ≡ 10 * 10 ^ i = rw add-one (pow-succ' 10 i) in grind arith
