-- A change that is made n times.
use Rattle.std.specs.Prelude.{ℕ, zero, suc}

unfoldable pub times : {A : Type 0} → ℕ → (A → A) → A → A
times zero change a = a
times (suc n) change a = times n change (change a)
