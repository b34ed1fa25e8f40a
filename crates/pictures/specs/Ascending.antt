-- Numbers that grow.
use Rattle.std.specs.Prelude.{◌⊎◌, ◌≡◌, ℕ, ◌+◌, ◌≤◌, List, [], ◌∷◌, ◌++◌}

-- numbers from the first on and below the end, each greater than the one before
abbrev pub Ascend : ℕ → List ℕ → ℕ → Type 0
Ascend first [] end = first ≤ end
Ascend first (number ∷ numbers) end = (first ≤ number) × Ascend (number + 1) numbers end

-- one more, or none
abbrev pub MayAppend : ℕ → List ℕ → List ℕ → Type 0
MayAppend number old new = (new ≡ old) ⊎ (new ≡ old ++ number ∷ [])
