-- Marks as bits of a number.
use Rattle.std.proofs.Common.{◌≡◌, ◌≢◌, ℕ, zero, suc, ◌+◌, ◌*◌, ◌/◌, ◌%◌, ◌^◌, ◌<◌, ◌≤◌, ◌⊎◌, inl, inr, Bool, true, false, not, ◌&&◌, ◌==◌, refl, sym, ◌∙◌, ap, subst, arith, nat_lt}
use Rattle.process_core.specs.Code.ProcessList.{mark_at, with_bit}
use Rattle.std.specs.Prelude.{bit_and, bit_or}
use Rattle.std.specs.Int.{bit_at, bit_not, w32, trailing_zeros}
use Rattle.std.proofs.lemmas.Bool.{cases_lt}
use Rattle.std.proofs.lemmas.Bool.Decides.{nat_tests}
use Rattle.std.proofs.lemmas.Nat.{and-not, and_comm, and_le_l, one_shl, or_lt, pow_below}
use Rattle.std.proofs.lemmas.Nat.Bits.{and_pow, bit_at-pow_same, bit_at-trailing_zeros, bit_at-zero, bit_at_above, bit_at_and, bit_at_clear_other, bit_at_clear_same, bit_at_set_other, bit_at_set_same, shr_and_one}

abbrev is_one : ℕ → Bool
is_one bit = bit == 1

pub no_bit : (p : ℕ) → mark_at 0 p ≡ false
unfolding mark_at
no_bit p = ap is_one (bit_at-zero p)

pub counted : (m p : ℕ) → mark_at m p ≡ true → 0 < m
counted zero p h = let none = no_bit p in absurd (cc)
counted (suc m) p h = omega arith

small_word : (m : ℕ) → m < 2 ^ 20 → m < 2 ^ 32
small_word m small = omega arith

pub some_marked : (m : ℕ) → 0 < m → m < 2 ^ 20 → (p : ℕ) × (mark_at m p ≡ true)
unfolding mark_at
some_marked m some small =
    (trailing_zeros w32 m, ap is_one (bit_at-trailing_zeros w32 m some (small_word m small)).1)

pub unmarked_beyond : (m p : ℕ) → 4 ≤ p → nat_lt 15 m ≡ false → mark_at m p ≡ false
unfolding mark_at
unmarked_beyond m p least none =
    let few : m < 16 = grind (arith, nat_tests, none) in
    ap is_one (bit_at_above m 4 p few least)

module _ (m p : ℕ) where
  pub shifted_bit : (bit_and (m / 2 ^ p) 1 == 1) ≡ mark_at m p
  unfolding mark_at
  shifted_bit = ap is_one (shr_and_one m p)

  pub bit_same : (x : Bool) → p < 20 → mark_at (with_bit p x m) p ≡ x
  unfolding mark_at with_bit
  bit_same true low = let within : p < 32 = omega (arith, low) in ap is_one (bit_at_set_same w32 m p within)
  bit_same false low = let within : p < 32 = omega (arith, low) in ap is_one (bit_at_clear_same w32 m p within)

  bit_cleared : (n : ℕ) → p < 32 → m < 2 ^ 20 → n ≢ p → (n < 32) ⊎ (32 ≤ n)
      → bit_at (bit_and m (bit_not w32 (1 * 2 ^ p % 2 ^ 32))) n ≡ bit_at m n
  bit_cleared n within small apart (inl below) = bit_at_clear_other w32 m p within n below apart
  bit_cleared n within small apart (inr above) =
      let far : 20 ≤ n = omega (arith, above) in
      omega (arith, bit_at_and m (bit_not w32 (1 * 2 ^ p % 2 ^ 32)) n, bit_at_above m 20 n small far)

  pub bit_other : (x : Bool) (n : ℕ) → p < 20 → m < 2 ^ 20 → n ≢ p → mark_at (with_bit p x m) n ≡ mark_at m n
  unfolding mark_at with_bit
  bit_other true n low small apart =
      let within : p < 32 = omega (arith, low) in ap is_one (bit_at_set_other w32 m p within n apart)
  bit_other false n low small apart =
      let within : p < 32 = omega (arith, low) in ap is_one (bit_cleared n within small apart (cases_lt n 32))

  pub bit_small : (x : Bool) → p < 20 → m < 2 ^ 20 → with_bit p x m < 2 ^ 20
  unfolding with_bit
  bit_small true low small =
      let within : p < 32 = omega (arith, low) in
      subst (λ bit. bit_or m bit < 2 ^ 20) (sym (one_shl p 32 within)) (or_lt 20 m (2 ^ p) small (pow_below p 20 low))
  bit_small false low small = omega (arith, and_le_l m (bit_not w32 (1 * 2 ^ p % 2 ^ 32)))

  -- clearing a mark subtracts its bit
  taken_away : p < 20 → m < 2 ^ 20 → with_bit p false m + bit_at m p * 2 ^ p ≡ m
  unfolding with_bit
  taken_away low small =
      let within : p < 32 = omega (arith, low) in
      let own = and_comm (2 ^ p) m ∙ and_pow m p in
      subst (λ bit. bit_and m (bit_not w32 bit) + bit_at m p * 2 ^ p ≡ m) (sym (one_shl p 32 within))
      (sym (ap (λ (rest : ℕ). rest + bit_and (2 ^ p) m) (and_comm (bit_not w32 (2 ^ p)) m) ∙ ap
      (λ (bit : ℕ). bit_and m (bit_not w32 (2 ^ p)) + bit) own)
      ∙ and-not 32 (2 ^ p) m (pow_below p 32 within) (small_word m small))

  only_by : p < 20 → m < 2 ^ 20 → (bit : ℕ) → bit_at m p ≡ bit
      → (is_one bit && not (nat_lt 0 (with_bit p false m))) ≡ (m == 2 ^ p)
  only_by low small zero unset =
      let apart : (m ≡ 2 ^ p → ⊥) = λ same. omega (arith, ap (λ (n : ℕ). bit_at n p) same, unset, bit_at-pow_same p) in
      grind (arith, nat_tests, apart)
  only_by low small (suc zero) set =
      let sum : with_bit p false m + 2 ^ p ≡ m = omega (arith, taken_away low small, ap (λ (bit : ℕ). bit * 2 ^ p) set) in
      grind (arith, nat_tests, sum)
  only_by low small (suc (suc bit)) more = absurd (omega (arith, more))

  pub only_bit : p < 20 → m < 2 ^ 20 → (mark_at m p && not (nat_lt 0 (with_bit p false m))) ≡ (m == 2 ^ p)
  unfolding mark_at
  only_bit low small = only_by low small (bit_at m p) refl
