-- The positions while blocks slide together: of the blocks that begin at the end of the others, or after it, the lowest slides
-- down.
use Rattle.mmem_core.proofs.Words.{◌≡◌, ◌≢◌, ℕ, ◌+◌, ◌≤◌, ◌<◌, ◌⊎◌, inl, inr, List, [], ◌∷◌, length, slice_set, Option, Some, None, if◌then◌else◌, nat_le, refl, ap, arith, sum_by, sum_by-cons, sum_by-set, get_or-set_at, get_or-set_other, up4, Place, place_in, last_end, at_of, room_of, LieApart}
use Rattle.mmem_core.proofs.PlaceLemmas.{placed, LieApart-set, live_below, end_le_last, last_le}

-- what the block takes, if it has not slid yet
abbrev to_slide : ℕ → Option Place → ℕ
to_slide end place = if nat_le end (at_of place) then room_of place else 0

-- blocks before `end` are together, and the others have not slid yet
pub record AreSliding (size total end : ℕ) (xs : List (Option Place)) : Type 0 where
  pub apart : LieApart xs size
  pub parted : (j : ℕ) → (at_of (place_in xs j) + room_of (place_in xs j) ≤ end) ⊎ (end ≤ at_of (place_in xs j))
  pub together : end + sum_by (to_slide end) xs ≤ total
  pub ends : end ≤ last_end xs

none_to_slide : (end : ℕ) → to_slide end None ≡ 0
none_to_slide end = grind arith

-- a later end leaves no more to slide
fewer_to_slide : (end more : ℕ) (p : Option Place) → to_slide (end + more) p ≤ to_slide end p
fewer_to_slide end more p = grind arith

fewer_in_all : (end more : ℕ) (xs : List (Option Place)) → sum_by (to_slide (end + more)) xs ≤ sum_by (to_slide end) xs
fewer_in_all end more [] = omega arith
fewer_in_all end more (x ∷ xs) =
    omega (
      arith,
      sum_by-cons (to_slide (end + more)) x xs,
      sum_by-cons (to_slide end) x xs,
      fewer_to_slide end more x,
      fewer_in_all end more xs,
    )

module _ {size total end : ℕ} {xs : List (Option Place)} (sliding : AreSliding size total end xs) where
  module _ (i : ℕ) (place : Place) (live : place_in xs i ≡ Some place) (behind : end ≤ place.at)
      (lowest : (j : ℕ) → 0 < room_of (place_in xs j) → end ≤ at_of (place_in xs j) → place.at ≤ at_of (place_in xs j)) where
    abbrev lowered : Option Place
    lowered = placed end place.len

    abbrev ys : List (Option Place)
    ys = slice_set xs i lowered

    room_i : room_of (place_in xs i) ≡ up4 place.len
    room_i = ap room_of live

    below : i < length xs
    below = live_below xs i place live

    at_here : (j : ℕ) → j ≡ i → place_in ys j ≡ lowered
    at_here j e = get_or-set_at xs i j lowered None e below

    elsewhere : (j : ℕ) → j ≢ i → place_in ys j ≡ place_in xs j
    elsewhere j ne = get_or-set_other xs i j lowered None ne

    pub some_room : 0 < up4 place.len
    some_room = grind arith

    pub inside : place.at + up4 place.len ≤ size
    inside = grind arith

    -- each other block is before the end, or after this one
    pub past : (j : ℕ) → j ≢ i → (at_of (place_in xs j) + room_of (place_in xs j) ≤ end)
        ⊎ (place.at + up4 place.len ≤ at_of (place_in xs j))
    past j ne = grind arith

    moved_parted : (j : ℕ) → (at_of (place_in ys j) + room_of (place_in ys j) ≤ end + up4 place.len)
        ⊎ (end + up4 place.len ≤ at_of (place_in ys j))
    moved_parted j = grind (arith, at_here, elsewhere)

    moved_together : end + up4 place.len + sum_by (to_slide (end + up4 place.len)) ys ≤ total
    moved_together =
        let more = up4 place.len in
        let none : to_slide (end + more) lowered ≡ 0 = grind arith in
        let all : to_slide end (place_in xs i) ≡ more = grind arith in
        omega (
          arith,
          sliding.together,
          none,
          all,
          none_to_slide (end + more),
          none_to_slide end,
          sum_by-set (to_slide (end + more)) xs i lowered None below,
          sum_by-set (to_slide (end + more)) xs i None None below,
          sum_by-set (to_slide end) xs i None None below,
          fewer_in_all end more (slice_set xs i None),
        )

    pub lowered_down : (j : ℕ) → at_of (place_in ys j) ≤ at_of (place_in xs j)
    lowered_down j = grind (arith, at_here, elsewhere)

    pub lowered_room : (j : ℕ) → room_of (place_in ys j) ≡ room_of (place_in xs j)
    lowered_room j = grind (arith, at_here, elsewhere)

    pub same_total : sum_by room_of ys ≡ sum_by room_of xs
    same_total = omega (arith, sum_by-set room_of xs i lowered None below, room_i)

    pub lowered_order : (j k : ℕ) → 0 < room_of (place_in xs j) → at_of (place_in xs j) < at_of (place_in xs k)
        → at_of (place_in ys j) < at_of (place_in ys k)
    lowered_order j k some less = grind (arith, at_here, elsewhere, past, some_room)

    pub sliding_more : AreSliding size total (end + up4 place.len) ys
    sliding_more = record {
      apart = LieApart-set xs i lowered below size sliding.apart (omega (arith, inside)) (λ _. some_room)
          (λ j ne _ _. elim (past j ne) [ inl low ↦ inr low | inr high ↦ inl (omega arith) ]);
      parted = moved_parted;
      together = moved_together;
      ends = grind (arith, at_here, end_le_last, ap at_of (at_here i refl));
    }

  -- all have slid down
  pub last_is_end : ((j : ℕ) → 0 < room_of (place_in xs j) → at_of (place_in xs j) < end) → last_end xs ≡ end
  last_is_end none_behind = grind (arith, last_le)
