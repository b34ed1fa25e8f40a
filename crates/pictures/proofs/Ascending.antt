-- Numbers that grow, one more at a time.
use Rattle.std.proofs.Common.{inl, inr, ℕ, ◌+◌, ◌≤◌, List, [], ◌∷◌, ◌++◌, sym, subst, arith}
use Rattle.pictures.specs.Ascending.{Ascend, MayAppend}

pub Ascend-widen : (first : ℕ) (numbers : List ℕ) (end other : ℕ) → Ascend first numbers end → end ≤ other → Ascend first numbers other
Ascend-widen first [] end other grows order = omega (arith, grows, order)
Ascend-widen first (number ∷ numbers) end other grows order = (grows.0, Ascend-widen (number + 1) numbers end other grows.1 order)

pub Ascend-append : (first : ℕ) (numbers : List ℕ) (number : ℕ) → Ascend first numbers number
    → Ascend first (numbers ++ number ∷ []) (number + 1)
Ascend-append first [] number grows = (grows, omega arith)
Ascend-append first (one ∷ numbers) number grows = (grows.0, Ascend-append (one + 1) numbers number grows.1)

pub Ascend-may : (first : ℕ) (old new : List ℕ) (number : ℕ) → MayAppend number old new → Ascend first old number
    → Ascend first new (number + 1)
Ascend-may first old new number (inl same) grows =
    subst (λ numbers. Ascend first numbers (number + 1)) (sym same) (Ascend-widen first old number (number + 1) grows (omega arith))
Ascend-may first old new number (inr more) grows =
    subst (λ numbers. Ascend first numbers (number + 1)) (sym more) (Ascend-append first old number grows)
