-- Totals over concatenated lists.
use Rattle.std.proofs.Common.{◌≡◌, ℕ, ◌+◌, List, [], ◌∷◌, ◌++◌, refl, arith, map, flat_map}
use Rattle.kernel_core.specs.Code.Totals.{total}

module _ {A : Type 0} (f : A → ℕ) where
  pub total-append : (xs ys : List A) → total f (xs ++ ys) ≡ total f xs + total f ys
  total-append [] ys = omega arith
  total-append (x ∷ xs) ys = omega (arith, total-append xs ys)

  pub total-none : {B : Type 0} (g : B → A) (bs : List B) → ((b : B) → f (g b) ≡ 0) → total f (map g bs) ≡ 0
  total-none g [] none = refl
  total-none g (b ∷ bs) none = omega (arith, total-none g bs none)

  pub total-nowhere : {B : Type 0} (g : B → List A) (bs : List B) → ((b : B) → total f (g b) ≡ 0) → total f (flat_map g bs) ≡ 0
  total-nowhere g [] none = refl
  total-nowhere g (b ∷ bs) none = omega (arith, total-nowhere g bs none, total-append (g b) (flat_map g bs))
