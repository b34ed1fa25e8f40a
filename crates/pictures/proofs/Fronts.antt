-- The first 4 elements of a list, or fewer.
use Rattle.std.proofs.Common.{◌≡◌, ℕ, min, Bool, List, length, take, ap, ◌∙◌, sym}
use Rattle.std.proofs.lemmas.List.{take_min}

pub take_within : (n : ℕ) (xs : List Bool) → length xs ≡ 4 → take (min n 4) xs ≡ take n xs
take_within n xs all = ap (λ k. take (min n k) xs) (sym all) ∙ take_min n xs
