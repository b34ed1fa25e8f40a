-- A line with too few words, or too many, says nothing.
use denote.Ref.{Bor}
use Rattle.std.proofs.Common.{◌≡◌, ℕ, ◌<◌, ◌≤◌, List, [], ◌∷◌, None, length, map, refl, arith}
use Rattle.network_setup.specs.Lines.{carriage_said, grid_said, link_said, loss_said}

pub carriage_short : (words : List (Bor (List ℕ))) → length words < 2 → carriage_said (map (λ word. word.now) words) ≡ None
carriage_short [] few = refl
carriage_short (one ∷ []) few = refl
carriage_short (one ∷ two ∷ words) few = absurd (omega arith)

pub link_short : (words : List (Bor (List ℕ))) → length words < 2 → link_said (map (λ word. word.now) words) ≡ None
link_short [] few = refl
link_short (one ∷ []) few = refl
link_short (one ∷ two ∷ words) few = absurd (omega arith)

pub grid_short : (words : List (Bor (List ℕ))) → length words < 3 → grid_said (map (λ word. word.now) words) ≡ None
grid_short [] few = refl
grid_short (one ∷ []) few = refl
grid_short (one ∷ two ∷ []) few = refl
grid_short (one ∷ two ∷ three ∷ words) few = absurd (omega arith)

-- three words at the end of a line, and five or more
pub loss_of_three : (words : List (Bor (List ℕ))) → 3 ≤ length words → length words < 4 → loss_said (map (λ word. word.now) words) ≡ None
loss_of_three [] many few = absurd (omega arith)
loss_of_three (one ∷ []) many few = absurd (omega arith)
loss_of_three (one ∷ two ∷ []) many few = absurd (omega arith)
loss_of_three (one ∷ two ∷ three ∷ []) many few = refl
loss_of_three (one ∷ two ∷ three ∷ four ∷ words) many few = absurd (omega arith)

pub loss_too_long : (words : List (Bor (List ℕ))) → 5 ≤ length words → loss_said (map (λ word. word.now) words) ≡ None
loss_too_long [] many = absurd (omega arith)
loss_too_long (one ∷ []) many = absurd (omega arith)
loss_too_long (one ∷ two ∷ []) many = absurd (omega arith)
loss_too_long (one ∷ two ∷ three ∷ []) many = absurd (omega arith)
loss_too_long (one ∷ two ∷ three ∷ four ∷ []) many = absurd (omega arith)
loss_too_long (one ∷ two ∷ three ∷ four ∷ five ∷ words) many = refl
