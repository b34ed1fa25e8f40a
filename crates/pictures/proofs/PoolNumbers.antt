-- The numbers of the pools up to one, and that one.
use Rattle.std.proofs.Common.{◌≡◌, ◌+◌, ◌<◌, ◌++◌, ℕ, zero, suc, List, [], ◌∷◌, flat_map, take, refl, arith}
use Rattle.std.proofs.lemmas.Grind.{flat_map-append}
use Rattle.std.proofs.lemmas.List.{append-nil}
use Rattle.pictures.specs.Svg.Pools.{numbers}

next_number : (n : ℕ) → n < 4 → take (n + 1) numbers ≡ take n numbers ++ n ∷ []
next_number zero there = refl
next_number (suc zero) there = refl
next_number (suc (suc zero)) there = refl
next_number (suc (suc (suc zero))) there = refl
next_number (suc (suc (suc (suc n)))) there = absurd (omega (arith, there))

pub texts_more : (text : ℕ → List ℕ) (n : ℕ) → n < 4 → flat_map text (take (n + 1) numbers) ≡ flat_map text (take n numbers) ++ text n
texts_more text n there = rw (next_number n there, flat_map-append, append-nil) refl
