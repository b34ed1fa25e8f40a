-- What a heap holds: after a flight came, and after one left.
use Rattle.std.proofs.Common.{◌≡◌, ℕ, ◌+◌, ◌<◌, ◌≤◌, List, [], ◌∷◌, length, get_or, ap, sym, subst, ◌∙◌, arith, Some, IsPermutation}
use Rattle.std.proofs.lemmas.Bool.Decides.{nat_tests}
use Rattle.std.proofs.lemmas.List.Sorted.{IsPermutation-refl, length_permutation}
use Rattle.std.specs.BinaryHeap.{IsHeap, IsUpperBound}
use Rattle.std.specs.List.{IsDistinct}
use Rattle.medium_core.specs.declared.numbered.Numbered.{Numbered}
use Rattle.medium_core.specs.Code.Heap.{IsHeld, arrival_cmp, flights_of, have_same_number, sorted}
use Rattle.medium_core.specs.Flights.{first_flight, with_flight}
use Rattle.medium_core.proofs.Order.{all_weaker}
use Rattle.medium_core.proofs.Sorting.{all_sorted, apart_shuffled, first_is, flights_with, same_order, shuffled}

module _ (room capacity number : ℕ) (old : List Numbered) (held : IsHeld room capacity number old) where
  apart_more : (a : Numbered) → a.number ≡ number → IsDistinct have_same_number (a ∷ old)
  unfolding IsDistinct
  apart_more a is = (all_weaker _ _ (λ b h. grind (arith, nat_tests)) old held.numbered, held.apart)

  -- one came
  pub held_more : (a : Numbered) (new : List Numbered) (new_capacity : ℕ) → a.number ≡ number → length old < room → capacity ≤ new_capacity →
      IsHeap arrival_cmp new → IsPermutation (a ∷ old) new → IsHeld room new_capacity (number + 1) new
  held_more a new new_capacity is free kept heap same = record {
    heap = heap;
    apart = apart_shuffled (a ∷ old) new same (apart_more a is);
    numbered = shuffled (a ∷ old) new same (λ (b : Numbered). b.number < number + 1)
        (omega (arith, is), all_weaker _ _ (λ b h. omega (arith, h)) old held.numbered);
    within = let e = length_permutation (a ∷ old) new same in omega (arith, e, free);
    taken = omega (arith, held.taken, kept);
  }

  pub flights_more : (a : Numbered) (new : List Numbered) → a.number ≡ number → IsPermutation (a ∷ old) new →
      flights_of (sorted new) ≡ with_flight a.flight (flights_of (sorted old))
  flights_more a new is same =
      ap flights_of (sym (same_order (a ∷ old) new same (apart_more a is)))
      ∙ flights_with a (sorted old) (all_sorted _ old (all_weaker _ _ (λ b h. omega (arith, h, is)) old held.numbered))

  -- one left
  pub held_less : (a : Numbered) (new : List Numbered) (new_capacity : ℕ) → new_capacity ≡ capacity → IsHeap arrival_cmp new → IsPermutation old (a ∷ new) →
      IsHeld room new_capacity number new
  unfolding IsDistinct
  held_less a new new_capacity kept heap same = record {
    heap = heap;
    apart = (apart_shuffled old (a ∷ new) same held.apart).1;
    numbered = (shuffled old (a ∷ new) same (λ (b : Numbered). b.number < number) held.numbered).1;
    within = let e = length_permutation old (a ∷ new) same in let w = held.within in omega (arith, e, w);
    taken = omega (arith, held.taken, kept);
  }

  pub held_same : (new : List Numbered) (new_capacity : ℕ) → new_capacity ≡ capacity → new ≡ old → IsHeld room new_capacity number new
  held_same new new_capacity e f = rw (e, f) held

  pub flights_less : (a : Numbered) (new : List Numbered) → IsPermutation old (a ∷ new) → IsUpperBound arrival_cmp a old →
      flights_of (sorted old) ≡ a.flight ∷ flights_of (sorted new)
  flights_less a new same greatest = ap flights_of (first_is old new a same held.apart greatest)

-- the first of a heap
pub first_flight_is : (room capacity number : ℕ) (items : List Numbered) → IsHeld room capacity number items → (a : Numbered) → 0 < length items →
    a ≡ get_or items 0 a → IsUpperBound arrival_cmp a items → first_flight (flights_of (sorted items)) ≡ Some a.flight
first_flight_is room capacity number [] held a some is greatest = absurd (omega arith)
first_flight_is room capacity number (b ∷ items) held a some is greatest =
    ap first_flight (flights_less room capacity number (b ∷ items) held a items (subst (λ (c : Numbered). IsPermutation (b ∷ items) (c ∷ items)) (sym is) (IsPermutation-refl (b ∷ items))) greatest)
