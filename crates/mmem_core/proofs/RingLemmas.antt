-- The ring of links after an append, a removal and a slide.
use Rattle.mmem_core.proofs.Words.{◌≡◌, ◌≢◌, ℕ, ◌+◌, ◌≤◌, ◌<◌, ◌⊎◌, inl, inr, List, length, get_or, slice_set, replicate, Option, None, refl, sym, ap, ◌∙◌, arith, cases_eq, cases_lt, get_or_past, get_or-set_same, get_or-set_other, get_or-replicate, length-set, Place, place_in, last_end, at_of, room_of, end_at, LieApart, subst, Order, IsEntry, IsNext, IsLinked, AreLinked, IsLaidOut, appended, removed}
use Rattle.mmem_core.proofs.PlaceLemmas.{placed, place_in-none, room_below, end_le_last, last_le}

no_entry : (i : ℕ) → IsEntry (replicate 272 None) i → i ≡ 272
no_entry i (inl e) = e
no_entry i (inr some) = absurd (omega (arith, ap room_of (place_in-none 272 i)))

pub no_links : IsLinked (replicate 272 None) (record { before = replicate 273 272; after = replicate 273 272 })
no_links = record {
  names = grind arith;
  entries_before = grind arith;
  entries_after = grind arith;
  next = λ i entry. rw (no_entry i entry) (record {
    entry = inl ends;
    lowest = λ j some _. absurd (omega (arith, ap room_of (place_in-none 272 j)));
  });
  back = λ i entry. grind (arith, no_entry i entry);
  last = λ i entry. rw (no_entry i entry) (inl ends);
  forth = λ i entry. grind (arith, no_entry i entry);
}
  where
    ends : get_or {A = ℕ} (replicate 273 272) 272 0 ≡ 272
    ends = get_or-replicate 273 272 272 0 (omega arith)

-- hides the links of the stored order from proof searches
pub shown : {places : List (Option Place)} {order : Order} {used size : ℕ} → IsLaidOut places order used size → IsLinked places order
unfolding AreLinked
shown laid_out = laid_out.linked

pub hidden : {places : List (Option Place)} {order : Order} → IsLinked places order → AreLinked places order
unfolding AreLinked
hidden linked = linked

module _ {places : List (Option Place)} {order : Order} (linked : IsLinked places order) where
  pub ends : place_in places 272 ≡ None
  ends = grind (arith, get_or_past)

  pub entry_below : (i : ℕ) → IsEntry places i → i ≤ 272
  entry_below i entry = grind (arith, room_below)

  pub next_below : (i : ℕ) → IsEntry places i → get_or order.after i 0 ≤ 272
  next_below i entry = grind (arith, room_below)

  pub last_below : get_or order.before 272 0 ≤ 272
  last_below = grind (arith, entry_below)

  -- the last block ends at the greatest end
  pub last_is : (size : ℕ) → LieApart places size → last_end places ≡ end_at places (get_or order.before 272 0)
  last_is size lie =
      let last = get_or order.before 272 0 in let each : (i : ℕ)
      → at_of (place_in places i) + room_of (place_in places i) ≤ end_at places last =
      λ i. grind (
        arith,
        (linked.next last (linked.last 272 (inl refl))).lowest i,
        lie.no_empty i,
        lie.apart i last,
        lie.apart last i,
        cases_lt,
      ) in
      grind (arith, last_le, end_le_last, linked.forth 272 (inl refl))

-- blocks that slide keep their order
module _ {xs ys : List (Option Place)} {size size' : ℕ} (lie : LieApart xs size) (lie' : LieApart ys size')
    (same : length ys ≡ length xs) (rooms : (i : ℕ) → room_of (place_in ys i) ≡ room_of (place_in xs i))
    (keeps : (i j : ℕ) → 0 < room_of (place_in xs i) → at_of (place_in xs i) < at_of (place_in xs j)
    → at_of (place_in ys i) < at_of (place_in ys j)) where
  stays_after : (i j : ℕ) → (place_in ys i ≡ None) ⊎ (0 < room_of (place_in xs i)) → 0 < room_of (place_in xs j)
      → end_at xs i ≤ at_of (place_in xs j) → end_at ys i ≤ at_of (place_in ys j)
  stays_after i j entry some after = grind arith

  was_after : (i j : ℕ) → (place_in xs i ≡ None) ⊎ (0 < room_of (place_in xs i)) → 0 < room_of (place_in xs j)
      → end_at ys i ≤ at_of (place_in ys j) → end_at xs i ≤ at_of (place_in xs j)
  was_after i j entry some after = grind arith

  no_higher : (i j : ℕ) → 0 < room_of (place_in xs i) → 0 < room_of (place_in xs j) → at_of (place_in xs i) ≤ at_of (place_in xs j)
      → at_of (place_in ys i) ≤ at_of (place_in ys j)
  no_higher i j one other le = grind arith

  pub linked_slid : {order : Order} → IsLinked xs order → IsLinked ys order
  linked_slid {order} linked =
      let none' = get_or_past ys 272 None (omega (arith, linked.names)) in
      let was : (i : ℕ) → IsEntry ys i → IsEntry xs i = grind arith in
      let is : (i : ℕ) → IsEntry xs i → IsEntry ys i = grind arith in
      record {
        names = same ∙ linked.names;
        entries_before = linked.entries_before;
        entries_after = linked.entries_after;
        next = λ i entry. record {
          entry = grind (arith, stays_after, rooms);
          lowest = λ j some after. grind (arith, was_after i j, no_higher, rooms);
        };
        back = λ i entry. linked.back i (was i entry);
        last = λ i entry. is (get_or order.before i 0) (linked.last i (was i entry));
        forth = λ i entry. linked.forth i (was i entry);
      }

-- a block after the last one
module _ {xs : List (Option Place)} {order : Order} (links : IsLinked xs order) (x n : ℕ) (below : x < 272) (none : place_in xs x ≡ None)
    (some : 1 ≤ n) where
  abbrev fresh : Option Place
  fresh = placed (last_end xs) n

  abbrev added : List (Option Place)
  added = slice_set xs x fresh

  abbrev last : ℕ
  last = get_or order.before 272 0

  abbrev longer : Order
  longer = appended x order

  last_entry : IsEntry xs last
  last_entry = links.last 272 (inl refl)

  not_new : (i : ℕ) → IsEntry xs i → i ≢ x
  not_new i entry = grind arith

  names : x < length xs
  names = omega arith

  place_x : place_in added x ≡ fresh
  place_x = get_or-set_same xs x fresh None names

  place_other : (i : ℕ) → i ≢ x → place_in added i ≡ place_in xs i
  place_other i ne = get_or-set_other xs x i fresh None ne

  after_x : get_or longer.after x 0 ≡ 272
  after_x = grind (arith, get_or-set_same, length-set)

  after_last : get_or longer.after last 0 ≡ x
  after_last = grind (arith, get_or-set_other, get_or-set_same, last_below)

  after_other : (i : ℕ) → i ≢ last → i ≢ x → get_or longer.after i 0 ≡ get_or order.after i 0
  after_other i ne ne' = grind (arith, get_or-set_other)

  before_x : get_or longer.before x 0 ≡ last
  before_x = grind (arith, get_or-set_other, get_or-set_same)

  before_ends : get_or longer.before 272 0 ≡ x
  before_ends = grind (arith, get_or-set_same, length-set)

  before_other : (i : ℕ) → i ≢ 272 → i ≢ x → get_or longer.before i 0 ≡ get_or order.before i 0
  before_other i ne ne' = grind (arith, get_or-set_other)

  was_entry : (i : ℕ) → IsEntry added i → i ≢ x → IsEntry xs i
  was_entry i entry ne = grind (arith, place_other)

  is_entry : (i : ℕ) → IsEntry xs i → IsEntry added i
  is_entry i entry = grind (arith, place_other)

  -- except for the last one, the next entry is a block's, and not the new one's
  next_other : (i : ℕ) → IsEntry xs i → i ≢ last → (get_or order.after i 0 ≢ 272) × (get_or order.after i 0 ≢ x)
  next_other i entry ne = grind arith

  -- none is after the last one
  none_after : (j : ℕ) → 0 < room_of (place_in xs j) → end_at xs last ≤ at_of (place_in xs j) → ⊥
  none_after j room after = grind arith

  next_added : (i : ℕ) → IsEntry added i → IsNext added (end_at added i) (get_or longer.after i 0)
  next_added i entry = elim (cases_eq i x) [
    | inl e ↦ grind (arith, after_x, place_x, place_other, cases_eq, end_le_last)
    | inr ne ↦ elim (cases_eq i last) [
      | inl e ↦ grind (arith, after_last, place_x, place_other, cases_eq, end_le_last, none_after)
      | inr ne' ↦ grind (
        arith,
        after_other,
        place_x,
        place_other,
        cases_eq,
        end_le_last,
        (links.next i (was_entry i entry ne)).lowest,
        next_other i (was_entry i entry ne) ne',
      )
    ]
  ]

  pub linked_appended : IsLinked added longer
  linked_appended = record {
    names = grind (arith, length-set);
    entries_before = grind (arith, length-set);
    entries_after = grind (arith, length-set);
    next = next_added;
    back = λ i entry. elim (cases_eq i x) [
      | inl e ↦ grind (arith, after_x, before_ends)
      | inr ne ↦ elim (cases_eq i last) [
        | inl e ↦ grind (arith, after_last, before_x)
        | inr ne' ↦ let was = was_entry i entry ne in grind (arith, after_other, before_other, next_other i was ne')
      ]
    ];
    last = λ i entry. elim (cases_eq i x) [
      | inl e ↦ grind (arith, before_x, is_entry, last_entry)
      | inr ne ↦ elim (cases_eq i 272) [
        | inl e ↦ grind (arith, before_ends, place_x)
        | inr ne' ↦ rw (before_other i ne' ne) (is_entry (get_or order.before i 0) (links.last i (was_entry i entry ne)))
      ]
    ];
    forth = λ i entry. elim (cases_eq i x) [
      | inl e ↦ grind (arith, before_x, after_last)
      | inr ne ↦ elim (cases_eq i 272) [
        | inl e ↦ grind (arith, before_ends, after_x)
        | inr ne' ↦ let was = was_entry i entry ne in let forth = links.forth i was in let lower = get_or order.before i 0 in
            ap (λ k. get_or longer.after k 0) (before_other i ne' ne)
            ∙ after_other lower (λ e. ne' (sym forth ∙ ap (λ k. get_or order.after k 0) e ∙ links.forth 272 (inl refl)))
            (not_new lower (links.last i was)) ∙ forth
      ]
    ];
  }

-- a block is freed
module _ {xs : List (Option Place)} {order : Order} {size : ℕ} (chain : IsLinked xs order) (lie : LieApart xs size) (x : ℕ)
    (live : 0 < room_of (place_in xs x)) where
  abbrev left : List (Option Place)
  left = slice_set xs x None

  abbrev lower : ℕ
  lower = get_or order.before x 0

  abbrev higher : ℕ
  higher = get_or order.after x 0

  abbrev shorter : Order
  shorter = removed x order

  below : x < length xs
  below = room_below xs x live

  place_none : place_in left x ≡ None
  place_none = get_or-set_same xs x None None below

  place_else : (i : ℕ) → i ≢ x → place_in left i ≡ place_in xs i
  place_else i ne = get_or-set_other xs x i None None ne

  after_lower : get_or order.after lower 0 ≡ x
  after_lower = chain.forth x (inr live)

  lower_entry : IsEntry xs lower
  lower_entry = chain.last x (inr live)

  next : IsNext xs (end_at xs x) higher
  next = chain.next x (inr live)

  higher_ne : higher ≢ x
  higher_ne = grind (arith, below)

  lower_ne : lower ≢ x
  lower_ne = grind (arith, higher_ne)

  pub lower_below : lower ≤ 272
  lower_below = entry_below chain lower lower_entry

  pub higher_below : higher ≤ 272
  higher_below = next_below chain x (inr live)

  at_lower : get_or shorter.after lower 0 ≡ higher
  at_lower = grind (arith, get_or-set_same, lower_below)

  after_else : (i : ℕ) → i ≢ lower → get_or shorter.after i 0 ≡ get_or order.after i 0
  after_else i ne = grind (arith, get_or-set_other)

  at_higher : get_or shorter.before higher 0 ≡ lower
  at_higher = grind (arith, get_or-set_same, higher_below)

  before_else : (i : ℕ) → i ≢ higher → get_or shorter.before i 0 ≡ get_or order.before i 0
  before_else i ne = grind (arith, get_or-set_other)

  left_live : (i : ℕ) → 0 < room_of (place_in left i) → (i ≢ x) × (place_in left i ≡ place_in xs i)
  left_live i some = grind (arith, place_none, place_else)

  entry_left : (i : ℕ) → IsEntry left i → (i ≢ x) × IsEntry xs i
  entry_left i (inl e) = (omega (arith, below), inl e)
  entry_left i (inr some) = let live = left_live i some in (live.0, inr (grind arith))

  still_entry : (i : ℕ) → i ≢ x → IsEntry xs i → IsEntry left i
  still_entry i ne entry = grind (arith, place_else)

  -- a block that is left, by the table before
  module _ (i : ℕ) (entry : IsEntry left i) where
    was : (i ≢ x) × IsEntry xs i
    was = entry_left i entry

    first : IsNext xs (end_at xs i) (get_or order.after i 0)
    first = chain.next i was.1

    same_end : end_at left i ≡ end_at xs i
    same_end = ap (λ p. at_of p + room_of p) (place_else i was.0)

    -- the next block of those left is the one that was next of all after `low`
    next_of_left : (low n : ℕ) → n ≢ x → IsNext xs low n
        → ((j : ℕ) → j ≢ x → 0 < room_of (place_in xs j) → end_at xs i ≤ at_of (place_in xs j) → low ≤ at_of (place_in xs j))
        → end_at xs i ≤ low → IsNext left (end_at left i) n
    next_of_left low n ne next past le = let there = place_else n ne in record {
      entry = grind (arith, same_end);
      lowest = λ j some after. let here = left_live j some in let some' : 0 < room_of (place_in xs j) = grind arith in
          grind (arith, next.lowest j some' (past j here.0 some' (omega (arith, after, ap at_of here.1, same_end))));
    }

    next_left : IsNext left (end_at left i) (get_or shorter.after i 0)
    next_left = elim (cases_eq i lower) [
      | inl e ↦
          let to_x : get_or order.after i 0 ≡ x = grind arith in
          let first' = subst (IsNext xs (end_at xs i)) to_x first in
          let low : end_at xs i ≤ at_of (place_in xs x) =
          elim first'.entry [ inl f ↦ absurd (omega (arith, f, below, chain.names)) | inr h ↦ h.1 ] in
          rw (ap (λ k. get_or shorter.after k 0) e ∙ at_lower)
          (next_of_left (end_at xs x) higher higher_ne next
          (λ j ne some after. lie.apart x j (λ f. ne (sym f)) live some (first'.lowest j some after).1) (omega (arith, low)))
      | inr ne ↦
          rw (after_else i ne)
          (next_of_left (end_at xs i) (get_or order.after i 0)
          (λ f. ne (sym (chain.back i was.1) ∙ ap (λ k. get_or order.before k 0) f)) first
          (λ j _ _ after. after) (omega arith))
    ]

  pub linked_removed : IsLinked left shorter
  linked_removed = record {
    names = length-set xs x None ∙ chain.names;
    entries_before = length-set order.before higher lower ∙ chain.entries_before;
    entries_after = length-set order.after lower higher ∙ chain.entries_after;
    next = next_left;
    back = λ i entry. let was = entry_left i entry in let back = chain.back i was.1 in elim (cases_eq i lower) [
      | inl e ↦ grind (arith, at_lower, at_higher)
      | inr ne ↦ grind (arith, after_else, before_else)
    ];
    last = λ i entry. let was = entry_left i entry in elim (cases_eq i higher) [
      | inl e ↦ rw (ap (λ k. get_or shorter.before k 0) e ∙ at_higher) (still_entry lower lower_ne lower_entry)
      | inr ne ↦ rw (before_else i ne) (still_entry (get_or order.before i 0)
          (λ e. ne (sym (chain.forth i was.1) ∙ ap (λ k. get_or order.after k 0) e))
          (chain.last i was.1))
    ];
    forth = λ i entry. let was = entry_left i entry in let forth = chain.forth i was.1 in elim (cases_eq i higher) [
      | inl e ↦ grind (arith, at_higher, at_lower)
      | inr ne ↦ ap (λ k. get_or shorter.after k 0) (before_else i ne)
          ∙ after_else (get_or order.before i 0) (λ e. was.0 (sym forth ∙ ap (λ k. get_or order.after k 0) e ∙ after_lower)) ∙ forth
    ];
  }
