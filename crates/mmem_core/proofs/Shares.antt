-- What each process's blocks take, after a change of one position.
use Rattle.mmem_core.proofs.Words.{rules, ◌≡◌, ◌≢◌, ℕ, zero, suc, ◌+◌, ◌-◌, ◌*◌, ◌≤◌, ◌<◌, inl, inr, List, [], ◌∷◌, length, get_or, slice_set, replicate, sum_by, Option, Some, None, refl, ap, arith, range_with_len, cases_eq, get_or-set_same, get_or-set_other, length-set, sum_by-cons, sum_by-set, IsName, number_of, Place, Quotas, place_in, room_of, room_by, share, Shares, AreShared}
use Rattle.std.proofs.lemmas.Bool.Decides.{nat_tests}
use Rattle.mmem_core.proofs.PlaceLemmas.{get_or-same, place_in-none}

-- sums of functions that agree on these numbers
pub same_sum : (f g : ℕ → ℕ) (from n : ℕ) → ((i : ℕ) → from ≤ i → i < from + n → f i ≡ g i)
    → sum_by f (range_with_len from n) ≡ sum_by g (range_with_len from n)
same_sum f g from zero same = refl
same_sum f g from (suc n) same = grind (arith, sum_by-cons, same_sum f g (from + 1) n)

room_by-none : (n p : ℕ) → room_by p (replicate n None) ≡ 0
room_by-none n p = grind (arith, place_in-none)

pub none_shared : (quotas : Quotas) (size : ℕ) → ((quota : ℕ) → quotas.each ≡ Some quota → quota * quotas.owners ≤ size)
    → AreShared quotas (replicate 272 None) (replicate 17 0) 0 size
unfolding AreShared
none_shared quotas size fit = search (rules, get_or-same {X = ℕ} 0, room_by-none)

room_by-other : (p q h : ℕ) (places : List (Option Place)) (x : Option Place) → 3 ≤ p → IsName q h → p ≢ q
    → room_by p (slice_set places (number_of q h) x) ≡ room_by p places
room_by-other p q h places x low named other = grind (arith, get_or-set_other)

room_by-own : (p h : ℕ) (places : List (Option Place)) (x : Option Place) → IsName p h → number_of p h < length places
    → room_by p (slice_set places (number_of p h) x) + room_of (place_in places (number_of p h)) ≡ room_by p places + room_of x
room_by-own p h places x named below = grind (arith, get_or-set_same, get_or-set_other)

module _ (quota : ℕ) where
  no_share : (i : ℕ) → share quota 0 i ≡ 0
  no_share i = grind arith

  later_share : (owners i : ℕ) → share quota (suc owners) (suc i) ≡ share quota owners i
  later_share owners i = grind arith

  -- the total is at most what all may take
  sum_within : (taken : List ℕ) (owners : ℕ) → ((i : ℕ) → get_or taken i 0 ≤ share quota owners i)
      → sum_by (λ n. n) taken ≤ quota * owners
  sum_within [] owners each = omega arith
  sum_within (n ∷ taken) zero each =
      omega (arith, sum_by-cons (λ n. n) n taken, each 0, sum_within taken zero (λ i. omega (arith, each (suc i), no_share (suc i))))
  sum_within (n ∷ taken) (suc owners) each =
      let first : share quota (suc owners) 0 ≡ quota = grind (arith, nat_tests) in
      let product : quota * suc owners ≡ quota + quota * owners = omega arith in
      omega (
        arith,
        sum_by-cons (λ n. n) n taken,
        each 0,
        first,
        sum_within taken owners
            (λ i. omega (arith, each (suc i), later_share owners i)),
        product,
      )

  -- a share is the quota, or nothing
  share_of_owner : (owners p : ℕ) → 3 ≤ p → p ≤ 2 + owners → share quota owners (p - 3) ≡ quota
  share_of_owner owners p low high = grind arith

  share_le : (owners i : ℕ) → share quota owners i ≤ quota
  share_le owners i = grind arith

module _ (quotas : Quotas) (places : List (Option Place)) (taken : List ℕ) (used size : ℕ)
    (kept : AreShared quotas places taken used size) where
  shared : Shares quotas places taken used size
  unfolding AreShared
  shared = kept

  pub taken_is : (p : ℕ) → 3 ≤ p → p ≤ 19 → get_or taken (p - 3) 0 ≡ room_by p places
  taken_is = shared.told

  pub taken_le_quota : (quota i : ℕ) → quotas.each ≡ Some quota → get_or taken i 0 ≤ quota
  taken_le_quota quota i each = omega (arith, shared.within quota each i, share_le quota quotas.owners i)

  pub taken_le_used : (i : ℕ) → i < 17 → get_or taken i 0 ≤ used
  taken_le_used i below = omega (arith, sum_by-set (λ n. n) taken i 0 0 (omega (arith, shared.entries)), shared.total)

  -- what an owner may still take is free
  pub share_is_there : (quota p : ℕ) → quotas.each ≡ Some quota → 3 ≤ p → p ≤ 19 → p ≤ 2 + quotas.owners
      → used + quota ≤ size + get_or taken (p - 3) 0
  share_is_there quota p each low high owner =
      let entry : p - 3 < length taken = omega (arith, shared.entries, high) in
      let all = slice_set taken (p - 3) quota in
      omega (
        arith,
        sum_by-set (λ n. n) taken (p - 3) quota 0 entry,
        shared.total,
        shared.fit quota each,
        sum_within quota all quotas.owners
            (λ i. elim (cases_eq i (p - 3)) [
              | inl here ↦
                  grind (arith, get_or-set_same, share_of_owner)
              | inr other ↦ omega (arith, get_or-set_other taken (p - 3) i quota 0 other, shared.within quota each i)
            ]),
      )

  pub rooms_kept : (new : List (Option Place)) → ((i : ℕ) → room_of (place_in new i) ≡ room_of (place_in places i))
      → AreShared quotas new taken used size
  unfolding AreShared
  rooms_kept new same = grind arith

  module _ (p h : ℕ) (named : IsName p h) (below : number_of p h < length places) where
    pub room_le_taken : room_of (place_in places (number_of p h)) ≤ get_or taken (p - 3) 0
    room_le_taken = omega (arith, room_by-own p h places None named below, shared.told p named.0 named.1)

    module _ (x : Option Place) where
      -- one position changes, and so what its process takes
      place_shared : (rest left : ℕ) → rest + room_of (place_in places (number_of p h)) ≡ get_or taken (p - 3) 0 + room_of x
          → left + room_of (place_in places (number_of p h)) ≡ used + room_of x
          → ((quota : ℕ) → quotas.each ≡ Some quota → rest ≤ share quota quotas.owners (p - 3))
          → AreShared quotas (slice_set places (number_of p h) x) (slice_set taken (p - 3) rest) left size
      unfolding AreShared
      place_shared rest left is count most =
          grind (arith, length-set, get_or-set_same, room_by-own, get_or-set_other, room_by-other, sum_by-set)

      -- a new block of an owner, with room for it
      pub block_shared : place_in places (number_of p h) ≡ None → p ≤ 2 + quotas.owners
          → ((quota : ℕ) → quotas.each ≡ Some quota → get_or taken (p - 3) 0 + room_of x ≤ quota)
          → AreShared quotas (slice_set places (number_of p h) x) (slice_set taken (p - 3) (get_or taken (p - 3) 0 + room_of x))
          (used + room_of x) size
      block_shared none owner most = let room = ap room_of none in place_shared (get_or taken (p - 3) 0 + room_of x) (used + room_of x)
          (omega arith) (omega arith) (λ quota each. grind (arith, share_of_owner, most quota each))

    pub freed_shared : (n : ℕ) → room_of (place_in places (number_of p h)) ≡ n
        → AreShared quotas (slice_set places (number_of p h) None) (slice_set taken (p - 3) (get_or taken (p - 3) 0 - n)) (used - n) size
    freed_shared n room = let mine = room_le_taken in let all = taken_le_used (p - 3) (omega (arith, named)) in
        place_shared None (get_or taken (p - 3) 0 - n) (used - n) (omega arith) (omega arith)
        (λ quota each. omega (arith, shared.within quota each (p - 3)))
