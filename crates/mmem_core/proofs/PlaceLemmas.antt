-- How the positions change, and the space that the blocks take.
use Rattle.mmem_core.proofs.Words.{◌≡◌, ◌≢◌, ℕ, zero, suc, ◌+◌, ◌≤◌, ◌<◌, ◌⊎◌, List, [], ◌∷◌, length, get_or, slice_set, replicate, Option, Some, None, refl, ap, arith, IsSome, IsSomeAnd, get_or-set_at, get_or-set_same, get_or-set_other, get_or_past, set-get_or, set-set, cases_eq, inl, inr, up4, Place, place_in, end_of, last_end, room_moved, bytes_moved, at_of, room_of, LieApart}

abbrev pub placed : ℕ → ℕ → Option Place
placed at len = Some (record { at = at; len = len })

pub len_le_room : (n : ℕ) → n ≤ up4 n
len_le_room n = omega arith

pub get_or-same : {X : Type 0} (x : X) (n i : ℕ) → get_or (replicate n x) i x ≡ x
get_or-same x zero i = refl
get_or-same x (suc n) zero = refl
get_or-same x (suc n) (suc i) = get_or-same x n i

pub place_in-none : (n i : ℕ) → place_in (replicate n None) i ≡ None
place_in-none = get_or-same None

pub LieApart-none : (n size : ℕ) → LieApart (replicate n None) size
LieApart-none n size = grind (arith, place_in-none)

module _ (places : List (Option Place)) (i : ℕ) where
  pub room_below : 0 < room_of (place_in places i) → i < length places
  room_below some = grind (arith, get_or_past)

  pub live_below : (place : Place) → place_in places i ≡ Some place → i < length places
  live_below place live = grind (arith, get_or_past)

pub live_from_room : (p : Option Place) → 0 < room_of p → IsSome p
live_from_room p h = grind arith

-- after a change of one position the blocks are apart if it meets no other
module _ (xs : List (Option Place)) (i : ℕ) (p : Option Place) (below : i < length xs) where
  entry : (j : ℕ) → ((j ≡ i) × (place_in (slice_set xs i p) j ≡ p)) ⊎ ((j ≢ i) × (place_in (slice_set xs i p) j ≡ place_in xs j))
  entry j = elim (cases_eq j i) [
    | inl e ↦ inl (e, get_or-set_at xs i j p None e below)
    | inr ne ↦ inr (ne, get_or-set_other xs i j p None ne)
  ]

  pub LieApart-set : (size : ℕ) → LieApart xs size → at_of p + room_of p ≤ size → (p ≢ None → 0 < room_of p)
      → ((j : ℕ) → j ≢ i → 0 < room_of p → 0 < room_of (place_in xs j)
      → (at_of p + room_of p ≤ at_of (place_in xs j)) ⊎ (at_of (place_in xs j) + room_of (place_in xs j) ≤ at_of p))
      → LieApart (slice_set xs i p) size
  LieApart-set size lie inside some clear = record {
    inside = λ j. grind (arith, entry j);
    apart = λ j k ne one other le. grind (arith, entry k, entry j);
    no_empty = λ j live. grind (arith, entry j);
  }

end_is : (p : Option Place) → end_of p ≡ at_of p + room_of p
end_is p = grind arith

pub end_le_last : (places : List (Option Place)) (i : ℕ) → at_of (place_in places i) + room_of (place_in places i) ≤ last_end places
end_le_last [] i = omega arith
end_le_last (x ∷ xs) zero = omega (arith, end_is x)
end_le_last (x ∷ xs) (suc i) = omega (arith, end_le_last xs i)

pub last_le : (places : List (Option Place)) (n : ℕ) → ((i : ℕ) → at_of (place_in places i) + room_of (place_in places i) ≤ n)
    → last_end places ≤ n
last_le [] n each = omega arith
last_le (x ∷ xs) n each = omega (arith, end_is x, each 0, last_le xs n (λ i. each (suc i)))

-- a block put after the last one is the last one, and meets no other
module _ (places : List (Option Place)) (i n : ℕ) (below : i < length places) where
  abbrev fresh : Option Place
  fresh = placed (last_end places) n

  pub last_end-added : last_end (slice_set places i fresh) ≡ last_end places + up4 n
  last_end-added =
      let new = get_or-set_same places i fresh None below in grind (arith, last_le, cases_eq, get_or-set_other, end_le_last, ap at_of new)

  pub LieApart-added : (size : ℕ) → LieApart places size → 1 ≤ n → last_end places + up4 n ≤ size → LieApart (slice_set places i fresh) size
  LieApart-added size lie some room = LieApart-set places i fresh below size lie room (λ _. omega arith)
      (λ j ne _ _. inr (end_le_last places j))

pub LieApart-freed : (places : List (Option Place)) (size i : ℕ) → i < length places → LieApart places size
    → LieApart (slice_set places i None) size
LieApart-freed places size i below lie = LieApart-set places i None below size lie (omega arith) (λ some. absurd (some refl))
    (λ j ne none _. absurd (omega arith))

-- it begins where the last of the others ends
pub begins_behind : (xs : List (Option Place)) (i n : ℕ) → i < length xs → place_in xs i ≡ None
    → (ys : List (Option Place)) → ys ≡ slice_set xs i (placed (last_end xs) n)
    → IsSomeAnd (place_in ys i) (λ (place : Place). place.at ≡ last_end (slice_set ys i None))
begins_behind xs i n below none ys is = grind (arith, get_or-set_same, set-set, set-get_or xs i None)

-- the number of bytes that a change of positions moves
pub room_moved-same : (p : Option Place) → room_moved p p ≡ 0
room_moved-same p = grind arith

room_moved-none : (p : Option Place) → room_moved p None ≡ 0
room_moved-none p = grind arith

pub bytes_moved-same : (xs : List (Option Place)) → bytes_moved xs xs ≡ 0
bytes_moved-same [] = refl
bytes_moved-same (x ∷ xs) = omega (arith, room_moved-same x, bytes_moved-same xs)

pub bytes_moved-set : (xs ys : List (Option Place)) (i : ℕ) (p : Option Place) → i < length ys
    → bytes_moved xs (slice_set ys i p) + room_moved (place_in xs i) (place_in ys i)
    ≡ bytes_moved xs ys + room_moved (place_in xs i) p
bytes_moved-set [] ys i p below = refl
bytes_moved-set (x ∷ xs) [] i p below = absurd (omega arith)
bytes_moved-set (x ∷ xs) (y ∷ ys) zero p below = omega arith
bytes_moved-set (x ∷ xs) (y ∷ ys) (suc i) p below = omega (arith, bytes_moved-set xs ys i p (omega arith))

pub bytes_moved-freed : (xs : List (Option Place)) (i : ℕ) → i < length xs → bytes_moved xs (slice_set xs i None) ≡ 0
bytes_moved-freed xs i below = omega (
  arith,
  bytes_moved-set xs xs i None below,
  bytes_moved-same xs,
  room_moved-none (place_in xs i),
)
