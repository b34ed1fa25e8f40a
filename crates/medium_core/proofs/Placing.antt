-- The position of a flight among those in flight.
use Rattle.std.proofs.Common.{◌≡◌, ℕ, zero, suc, ◌<◌, ◌≤◌, List, [], ◌∷◌, length, get_or, take, drop, refl, subst, arith}
use Rattle.std.proofs.lemmas.Bool.Decides.{nat_tests}
use Rattle.std.specs.List.{AllByRecursion, insert}
use Rattle.medium_core.specs.Code.Queue.{InOrder}
use Rattle.medium_core.specs.Flights.{with_flight}
use Rattle.medium_core.specs.declared.flight.Flight.{Flight}

-- all arrive until then
abbrev pub AreEarly : ℕ → List Flight → Type 0
AreEarly due flights = AllByRecursion (λ (g : Flight). g.due ≤ due) flights

abbrev pub AreLater : ℕ → List Flight → Type 0
AreLater due flights = AllByRecursion (λ (g : Flight). due < g.due) flights

pub placed : (f : Flight) (flights : List Flight) (at : ℕ) → AreEarly f.due (take at flights) → AreLater f.due (drop at flights) →
    insert flights at f ≡ with_flight f flights
placed f [] zero early later = refl
placed f [] (suc at) early later = refl
placed f (g ∷ flights) zero early later = grind (arith, nat_tests, later.0)
placed f (g ∷ flights) (suc at) early later =
    let rest = placed f flights at early.1 later in
    grind (arith, nat_tests, early.0, rest)

all_at : (P : Flight → Type 0) (flights : List Flight) (at : ℕ) (d : Flight) → at < length flights → AllByRecursion P flights → P (get_or flights at d)
all_at P [] at d h all = absurd (omega arith)
all_at P (g ∷ flights) zero d h all = all.0
all_at P (g ∷ flights) (suc at) d h all = all_at P flights at d (omega arith) all.1

-- where one is early, so are those before it
pub early_until : (due : ℕ) (flights : List Flight) (at : ℕ) (d : Flight) → InOrder flights → at < length flights → (get_or flights at d).due ≤ due →
    AreEarly due (take (suc at) flights)
early_until due [] at d order h e = absurd (omega arith)
early_until due (g ∷ flights) zero d order h e = (e, tt)
early_until due (g ∷ flights) (suc at) d order h e =
    let below = all_at (λ (x : Flight). g.due ≤ x.due) flights at d (omega arith) order.0 in
    (omega (arith, below, e), early_until due flights at d order.1 (omega arith) e)

pub early_to : (due : ℕ) (flights : List Flight) (at before : ℕ) (d : Flight) → suc before ≡ at → InOrder flights → before < length flights →
    (get_or flights before d).due ≤ due → AreEarly due (take at flights)
early_to due flights at before d same order h e = subst (λ (n : ℕ). AreEarly due (take n flights)) same (early_until due flights before d order h e)
