-- The digits of numbers that have three or four.
use Rattle.std.proofs.Common.{◌≡◌, ℕ, ◌+◌, ◌/◌, ◌%◌, ◌<◌, ◌≤◌, [], ◌∷◌, decimal, refl, arith}
use Rattle.std.proofs.lemmas.Fmt.{decimal_digit, decimal_step}

pub three_digits : (n : ℕ) → 100 ≤ n → n < 1000 → decimal n ≡ (48 + n / 100) ∷ (48 + n / 10 % 10) ∷ (48 + n % 10) ∷ []
three_digits n low high =
    let first : n / 10 / 10 ≡ n / 100 = omega arith in
    rw (
      decimal_step n (omega (arith, low)) (omega (arith, high)),
      decimal_step (n / 10) (omega (arith, low)) (omega (arith, high)),
      first,
      decimal_digit (n / 100) (omega (arith, high)),
    ) refl

pub four_digits : (n : ℕ) → 1000 ≤ n → n < 10000 →
    decimal n ≡ (48 + n / 1000) ∷ (48 + n / 100 % 10) ∷ (48 + n / 10 % 10) ∷ (48 + n % 10) ∷ []
four_digits n low high =
    let first : n / 10 / 100 ≡ n / 1000 = omega arith in
    let second : n / 10 / 10 ≡ n / 100 = omega arith in
    rw (decimal_step n (omega (arith, low)) (omega (arith, high)), three_digits (n / 10) (omega (arith, low)) (omega (arith, high)), first, second) refl
