-- Numbered flights in the order of their arrival, which is one for all lists of the same flights.
use Rattle.std.proofs.Common.{◌≡◌, suc, ◌+◌, ◌<◌, ◌==◌, ◌⊎◌, inl, inr, ⊎_elim, List, [], ◌∷◌, length, refl, ap, ap₂, sym, subst, ◌∙◌, arith, Bool, true, false, nat_lt, if◌then◌else◌, ◌||◌, ◌&&◌, cond, Less, Equal, Greater, IsPermutation}
use Rattle.std.proofs.lemmas.Bool.Decides.{nat_tests}
use Rattle.std.proofs.lemmas.List.Elements.{All-from_recursion, recursion_from_All}
use Rattle.std.proofs.lemmas.List.Sorted.{All-permutation, IsPermutation-sym}
use Rattle.std.proofs.lemmas.Map.Keys.{IsDistinct-IsPermutation}
use Rattle.std.specs.BinaryHeap.{IsUpperBound}
use Rattle.std.specs.List.{AllByRecursion, IsDistinct}
use Rattle.std.specs.Ordering.{is_lt, ordering_then}
use Rattle.medium_core.specs.declared.numbered.Numbered.{Numbered}
use Rattle.medium_core.specs.Code.Heap.{arrival_cmp, flights_of, have_same_number, is_before, sorted, with_numbered}
use Rattle.medium_core.specs.Flights.{with_flight}
use Rattle.medium_core.proofs.Order.{all_weaker}

abbrev Before : Numbered → Numbered → Type 0
Before a b = is_before a b ≡ true

before_self : (a : Numbered) → Before a a → ⊥
before_self a h = grind (arith, nat_tests)

before_both : (a b : Numbered) → Before a b → Before b a → ⊥
before_both a b h k = grind (arith, nat_tests)

before_on : (a b c : Numbered) → Before a b → Before b c → Before a c
before_on a b c h k = grind (arith, nat_tests)

before_other : (a b : Numbered) → have_same_number a b ≡ false → is_before a b ≡ false → Before b a
before_other a b apart h = grind (arith, nat_tests)

number_turned : (a b : Numbered) → have_same_number a b ≡ false → have_same_number b a ≡ false
number_turned a b h = grind (arith, nat_tests)

abbrev pub IsRising : List Numbered → Type 0
IsRising [] = Unit {0}
IsRising (a ∷ items) = AllByRecursion (Before a) items × IsRising items

all_with : (P : Numbered → Type 0) (a : Numbered) (items : List Numbered) → P a → AllByRecursion P items → AllByRecursion P (with_numbered a items)
all_with P a [] own all = (own, tt)
all_with P a (b ∷ items) own all = by_test (is_before a b) (all_with P a items own all.1)
  where
    by_test : (t : Bool) → AllByRecursion P (with_numbered a items) → AllByRecursion P (if t then a ∷ b ∷ items else b ∷ with_numbered a items)
    by_test true rest = (own, all)
    by_test false rest = (all.0, rest)

all_without : (P : Numbered → Type 0) (a : Numbered) (items : List Numbered) → AllByRecursion P (with_numbered a items) → P a × AllByRecursion P items
all_without P a [] all = all
all_without P a (b ∷ items) all = by_test (is_before a b) (all_without P a items) all
  where
    by_test : (t : Bool) → (AllByRecursion P (with_numbered a items) → P a × AllByRecursion P items) →
        AllByRecursion P (if t then a ∷ b ∷ items else b ∷ with_numbered a items) → P a × AllByRecursion P (b ∷ items)
    by_test true more all = all
    by_test false more all = let rest = more all.1 in (rest.0, (all.0, rest.1))

pub all_sorted : (P : Numbered → Type 0) (items : List Numbered) → AllByRecursion P items → AllByRecursion P (sorted items)
all_sorted P [] all = tt
all_sorted P (a ∷ items) all = all_with P a (sorted items) all.0 (all_sorted P items all.1)

all_unsorted : (P : Numbered → Type 0) (items : List Numbered) → AllByRecursion P (sorted items) → AllByRecursion P items
all_unsorted P [] all = tt
all_unsorted P (a ∷ items) all = let rest = all_without P a (sorted items) all in (rest.0, all_unsorted P items rest.1)

rising_with : (a : Numbered) (items : List Numbered) → AllByRecursion (λ (b : Numbered). have_same_number a b ≡ false) items → IsRising items →
    IsRising (with_numbered a items)
rising_with a [] apart rising = (tt, tt)
rising_with a (b ∷ items) apart rising = by_test (is_before a b) refl (rising_with a items apart.1 rising.1)
  where
    by_test : (t : Bool) → is_before a b ≡ t → IsRising (with_numbered a items) → IsRising (if t then a ∷ b ∷ items else b ∷ with_numbered a items)
    by_test true e rest = ((e, all_weaker (Before b) (Before a) (λ c h. before_on a b c e h) items rising.0), rising)
    by_test false e rest = (all_with (Before b) a items (before_other a b apart.0 e) rising.0, rest)

pub rising_sorted : (items : List Numbered) → IsDistinct have_same_number items → IsRising (sorted items)
unfolding IsDistinct
rising_sorted [] apart = tt
rising_sorted (a ∷ items) apart = rising_with a (sorted items) (all_sorted _ items apart.0) (rising_sorted items apart.1)

-- what holds of all of xs holds of all of ys
abbrev Covers : List Numbered → List Numbered → Type 1
Covers xs ys = (P : Numbered → Type 0) → AllByRecursion P xs → AllByRecursion P ys

-- the first is before the others
abbrev FirstOf : Numbered → Numbered → Type 0
FirstOf a b = (a ≡ b) ⊎ Before a b

first_of_all : (a b : Numbered) (xs ys : List Numbered) → IsRising (a ∷ xs) → Covers (a ∷ xs) (b ∷ ys) → FirstOf a b
first_of_all a b xs ys rising covers = (covers (FirstOf a) (inl refl, all_weaker (Before a) (FirstOf a) (λ c h. inr h) xs rising.0)).0

tail_covers : (a : Numbered) (xs ys : List Numbered) → IsRising (a ∷ ys) → Covers (a ∷ xs) (a ∷ ys) → Covers xs ys
tail_covers a xs ys rising covers P all =
    let P' : Numbered → Type 0 = λ c. Before a c → P c in
    let some = (covers P' (λ h. absurd (before_self a h), all_weaker P P' (λ c p h. p) xs all)).1 in
    both ys rising.0 some
  where
    both : (zs : List Numbered) → AllByRecursion (Before a) zs → AllByRecursion (λ (c : Numbered). Before a c → P c) zs → AllByRecursion P zs
    both [] before some = tt
    both (z ∷ zs) before some = (some.0 before.0, both zs before.1 some.1)

one_order : (xs ys : List Numbered) → IsRising xs → IsRising ys → Covers xs ys → Covers ys xs → xs ≡ ys
one_order [] [] p q there back = refl
one_order [] (b ∷ ys) p q there back = absurd ((there (λ _. ⊥) tt).0)
one_order (a ∷ xs) [] p q there back = absurd ((back (λ _. ⊥) tt).0)
one_order (a ∷ xs) (b ∷ ys) p q there back =
    let same : a ≡ b =
    ⊎_elim (λ e. e) (λ h. ⊎_elim (λ e. sym e) (λ k. absurd (before_both a b h k)) (first_of_all b a ys xs q back)) (first_of_all a b xs ys p there) in
    let q' : IsRising (a ∷ ys) = subst (λ (c : Numbered). IsRising (c ∷ ys)) (sym same) q in
    let there' : Covers (a ∷ xs) (a ∷ ys) = subst (λ (c : Numbered). Covers (a ∷ xs) (c ∷ ys)) (sym same) there in
    let back' : Covers (a ∷ ys) (a ∷ xs) = subst (λ (c : Numbered). Covers (c ∷ ys) (a ∷ xs)) (sym same) back in
    ap₂ (λ (c : Numbered) (l : List Numbered). c ∷ l) same (one_order xs ys p.1 q'.1 (tail_covers a xs ys q' there') (tail_covers a ys xs p back'))

pub shuffled : (xs ys : List Numbered) → IsPermutation xs ys → (P : Numbered → Type 0) → AllByRecursion P xs → AllByRecursion P ys
shuffled xs ys same P all = recursion_from_All P ys (All-permutation P xs ys same (All-from_recursion P xs all))

pub apart_shuffled : (xs ys : List Numbered) → IsPermutation xs ys → IsDistinct have_same_number xs → IsDistinct have_same_number ys
apart_shuffled xs ys same apart = IsDistinct-IsPermutation have_same_number (λ a b. grind (arith, nat_tests)) xs ys same apart

pub same_order : (xs ys : List Numbered) → IsPermutation xs ys → IsDistinct have_same_number xs → sorted xs ≡ sorted ys
same_order xs ys same apart =
    one_order (sorted xs) (sorted ys) (rising_sorted xs apart) (rising_sorted ys (apart_shuffled xs ys same apart))
    (λ P all. all_sorted P ys (shuffled xs ys same P (all_unsorted P xs all)))
    (λ P all. all_sorted P xs (shuffled ys xs (IsPermutation-sym xs ys same) P (all_unsorted P ys all)))

-- what the heap's order says
pub not_before : (a b : Numbered) → is_lt (arrival_cmp a b) ≡ is_before b a
not_before a b = by_tests (nat_lt b.flight.due a.flight.due) (b.flight.due == a.flight.due) (nat_lt b.number a.number) (b.number == a.number)
  where
    by_tests : (d e n m : Bool) → is_lt (ordering_then (cond d Less (cond e Equal Greater)) (cond n Less (cond m Equal Greater))) ≡ (d || (e && n))
    by_tests true e n m = refl
    by_tests false true true m = refl
    by_tests false true false true = refl
    by_tests false true false false = refl
    by_tests false false n m = refl

with_first : (a : Numbered) (items : List Numbered) → AllByRecursion (Before a) items → with_numbered a items ≡ a ∷ items
with_first a [] all = refl
with_first a (b ∷ items) all = rw all.0 refl

-- added behind those with lower numbers, it is after all that arrive no later
pub flights_with : (a : Numbered) (items : List Numbered) → AllByRecursion (λ (b : Numbered). b.number < a.number) items →
    flights_of (with_numbered a items) ≡ with_flight a.flight (flights_of items)
flights_with a [] lower = refl
flights_with a (b ∷ items) lower = by_test (nat_lt a.flight.due b.flight.due) refl (flights_with a items lower.1)
  where
    by_test : (t : Bool) → nat_lt a.flight.due b.flight.due ≡ t → flights_of (with_numbered a items) ≡ with_flight a.flight (flights_of items) →
        flights_of (with_numbered a (b ∷ items)) ≡ (if t then a.flight ∷ b.flight ∷ flights_of items else b.flight ∷ with_flight a.flight (flights_of items))
    by_test true e rest = rw e refl
    by_test false e rest =
        let later : is_before a b ≡ false = let low = lower.0 in grind (arith, nat_tests) in
        rw later (ap (λ l. b.flight ∷ l) rest)

length_with : (a : Numbered) (items : List Numbered) → length (with_numbered a items) ≡ length items + 1
length_with a [] = refl
length_with a (b ∷ items) = by_test (is_before a b) (length_with a items)
  where
    by_test : (t : Bool) → length (with_numbered a items) ≡ length items + 1 →
        length (if t then a ∷ b ∷ items else b ∷ with_numbered a items) ≡ length (b ∷ items) + 1
    by_test true rest = omega arith
    by_test false rest = omega (arith, rest)

pub length_flights : (items : List Numbered) → length (flights_of (sorted items)) ≡ length items
length_flights items = of_map (sorted items) ∙ of_sorted items
  where
    of_map : (l : List Numbered) → length (flights_of l) ≡ length l
    of_map [] = refl
    of_map (a ∷ l) = ap suc (of_map l)

    of_sorted : (l : List Numbered) → length (sorted l) ≡ length l
    of_sorted [] = refl
    of_sorted (a ∷ l) = let one = length_with a (sorted l) in let rest = of_sorted l in omega (arith, one, rest)

-- the greatest of a heap arrives first
pub first_is : (items rest : List Numbered) (a : Numbered) → IsPermutation items (a ∷ rest) → IsDistinct have_same_number items →
    IsUpperBound arrival_cmp a items → sorted items ≡ a ∷ sorted rest
unfolding IsDistinct
first_is items rest a same apart greatest =
    let apart' = apart_shuffled items (a ∷ rest) same apart in
    let greatest' = (shuffled items (a ∷ rest) same (λ (b : Numbered). is_lt (arrival_cmp a b) ≡ false) greatest).1 in
    same_order items (a ∷ rest) same apart ∙ with_first a (sorted rest) (all_sorted (Before a) rest (each rest apart'.0 greatest'))
  where
    each : (l : List Numbered) → AllByRecursion (λ (b : Numbered). have_same_number a b ≡ false) l →
        AllByRecursion (λ (b : Numbered). is_lt (arrival_cmp a b) ≡ false) l → AllByRecursion (Before a) l
    each [] apart greatest = tt
    each (b ∷ l) apart greatest =
        (before_other b a (number_turned a b apart.0) (sym (not_before a b) ∙ greatest.0), each l apart.1 greatest.1)
