-- A total over a list.
use Rattle.std.specs.Prelude.{ℕ, ◌+◌, List, [], ◌∷◌}

abbrev pub total : {A : Type 0} → (A → ℕ) → List A → ℕ
total f [] = 0
total f (x ∷ xs) = f x + total f xs
