-- What the handles of a table stand for, after each change of the table and the bytes.
use Rattle.mmem_core.proofs.Words.{◌≡◌, ◌≢◌, ℕ, ◌+◌, ◌-◌, ◌≤◌, ◌⊎◌, inl, List, [], length, get_or, unwrap_or, slice_set, slice_range, sum_by, Option, Some, None, refl, sym, ap, ◌∙◌, arith, append_assoc, length-replicate, map-set, set-get_or, number_of, up4, zeros, overwritten, contents, written, length-range, written-range, range-range, changes_only, Place, ManagedStore, size_of, block_of, unused, taken_by, free, place_in, last_end, at_of, room_of, LieApart, room_by, HandleTable, store_of, region_of, IsWithin, bytes_at, KeepsToSpan}
use Rattle.arena_core.proofs.Rows.{written_is}
use Rattle.mmem_core.proofs.Shares.{same_sum}
use Rattle.mmem_core.proofs.StoreLemmas.{block_in, get_or-blocks, no_place, size_same, sum_same, blocks-set, block_written}
use Rattle.mmem_core.proofs.PlaceLemmas as places

abbrev pub with_slot : ℕ → Option (List ℕ) → ManagedStore → ManagedStore
with_slot i block store = record store { blocks = slice_set store.blocks i block }

abbrev pub with_place : HandleTable → ℕ → ℕ → Option Place → HandleTable
with_place table slid i p = record table { places = slice_set table.places i p; slid = slid }

-- the code's facts on positions, for the table that is seen
pub seen_apart : {kept seen : HandleTable} → kept ≡ seen → LieApart kept.places kept.span.len → LieApart seen.places seen.span.len
seen_apart is lie = grind arith

module _ (table : HandleTable) (lie : LieApart table.places table.span.len) (B : List ℕ) (within : IsWithin table B) where
  abbrev region : List ℕ
  region = region_of table B

  region_length : length region ≡ table.span.len
  region_length = length-range B table.span.at table.span.len within

  pub unused_is : (used : ℕ) → sum_by room_of table.places ≡ used → unused (store_of table B) ≡ table.span.len - used
  unused_is used total =
      let long = region_length in
      ap (λ k. table.span.len - k) (sum_same region table.places (λ j. omega arith) ∙ total)

  taken_by_is : (p : ℕ) → taken_by p (store_of table B) ≡ room_by p table.places
  taken_by_is p =
      same_sum (λ h. size_of (block_of p h (store_of table B))) (λ h. room_of (place_in table.places (number_of p h))) 0 16
      (λ h _ _. ap size_of (get_or-blocks region table.places (number_of p h))
      ∙ size_same region (place_in table.places (number_of p h)) (omega (arith, lie.inside (number_of p h), region_length)))

  pub free_under : (quota p n : ℕ) → table.quotas.each ≡ Some quota → n ≡ room_by p table.places → free p (store_of table B) ≡ quota - n
  free_under quota p n each room = grind (arith, taken_by_is)

  pub free_of_all : (p used : ℕ) → table.quotas.each ≡ None → sum_by room_of table.places ≡ used
      → free p (store_of table B) ≡ table.span.len - used
  free_of_all p used each total = grind (arith, unused_is)

  -- a write in the span, by this table
  pub record Writes (new : HandleTable) (at : ℕ) (ws : List ℕ) (store : ManagedStore) : Type 0 where
    pub stored : store_of new (written B at ws) ≡ store
    pub rest : (carved : ℕ) → KeepsToSpan table new (contents B carved) (contents (written B at ws) carved)

  kept : (new : HandleTable) (at : ℕ) (ws : List ℕ) → new.span ≡ table.span → new.quotas ≡ table.quotas → table.span.at ≤ at
      → at + length ws ≤ table.span.at + table.span.len → (carved : ℕ)
      → KeepsToSpan table new (contents B carved) (contents (written B at ws) carved)
  kept new at ws same limits low high carved = record {
    span = same;
    quotas = limits;
    carved = refl;
    bytes = changes_only B at ws (omega arith) table.span.at table.span.len low high;
  }

  -- the written bytes meet no block but i's, whose position changes
  changed : (slid' at : ℕ) (ws : List ℕ) (i : ℕ) (p : Option Place) → at + length ws ≤ table.span.len
      → ((j : ℕ) → j ≢ i → (at_of (place_in table.places j) + room_of (place_in table.places j) ≤ at)
      ⊎ (at + length ws ≤ at_of (place_in table.places j)))
      → Writes (with_place table slid' i p) (table.span.at + at) ws (with_slot i (block_in (written region at ws) p) (store_of table B))
  changed slid' at ws i p inside apart =
      let long = region_length in let is = blocks-set region at ws (omega arith) table.places i p apart in
      record {
        stored = grind (arith, block_in, written-range);
        rest = kept (with_place table slid' i p) (table.span.at + at) ws refl refl (omega arith) (omega arith);
      }

  pub unused_place : (i : ℕ) → get_or (store_of table B).blocks i None ≡ None → place_in table.places i ≡ None
  unused_place i unused = no_place region (place_in table.places i) (sym (get_or-blocks region table.places i) ∙ unused)

  pub added : (slid' i n : ℕ) → last_end table.places + n ≤ table.span.len
      → Writes (with_place table slid' i (places.placed (last_end table.places) n)) (table.span.at + last_end table.places) (zeros n)
      (with_slot i (Some (zeros n)) (store_of table B))
  added slid' i n room =
      let count : length (zeros n) ≡ n = length-replicate n 0 in let long = region_length in
      let is = changed slid' (last_end table.places) (zeros n) i (places.placed (last_end table.places) n) (omega arith)
      (λ j _. inl (places.end_le_last table.places j)) in
      let new = block_written region (last_end table.places) (zeros n) (omega arith) in
      record { stored = grind arith; rest = is.rest }

  pub taken_away : (slid' i : ℕ) → store_of (with_place table slid' i None) B
      ≡ with_slot i None (store_of table B)
  taken_away slid' i = grind (arith, map-set)

  module _ (i : ℕ) (place : Place) (live : place_in table.places i ≡ Some place) where
    pub place_inside : place.at + up4 place.len ≤ table.span.len
    place_inside = grind arith

    pub bytes_are : bytes_at region place ≡ slice_range B (table.span.at + place.at) (table.span.at + place.at + place.len)
    bytes_are = grind (arith, range-range)

    pub block_is : get_or (store_of table B).blocks i None
        ≡ Some (slice_range B (table.span.at + place.at) (table.span.at + place.at + place.len))
    block_is = get_or-blocks region table.places i ∙ ap (block_in region) live ∙ ap Some bytes_are

    pub block_read : unwrap_or (get_or (store_of table B).blocks i None) [] ≡ bytes_at region place
    block_read = ap (λ o. unwrap_or o []) (get_or-blocks region table.places i ∙ ap (block_in region) live)

    pub place_length : length (slice_range B (table.span.at + place.at) (table.span.at + place.at + place.len)) ≡ place.len
    place_length = grind (arith, length-range)

    pub rewritten : (at : ℕ) (ws : List ℕ) → at + length ws ≤ place.len
        → Writes table (table.span.at + place.at + at) ws
        (with_slot i (Some (overwritten at ws (unwrap_or (get_or (store_of table B).blocks i None) []))) (store_of table B))
    rewritten at ws room =
        let g = place_inside in let long = region_length in let n = places.len_le_room place.len in
        let is = (changed table.slid (place.at + at) ws i (Some place) (omega arith)
        (λ j ne. grind arith)).stored in
        let new : bytes_at (written region (place.at + at) ws) place ≡ overwritten at ws (bytes_at region place) =
        grind (arith, written-range, written_is, length-range, append_assoc) in
        let same = set-get_or table.places i None in let old = block_read in
        let there : table.span.at + (place.at + at) ≡ table.span.at + place.at + at = omega arith in
        record { stored = grind arith; rest = kept table (table.span.at + place.at + at) ws refl refl (omega arith) (omega arith) }

    -- the block moves down, past no other one
    pub moved : (slid' to : ℕ) → to ≤ place.at
        → ((j : ℕ) → j ≢ i → (at_of (place_in table.places j) + room_of (place_in table.places j) ≤ to)
        ⊎ (place.at + up4 place.len ≤ at_of (place_in table.places j)))
        → Writes (with_place table slid' i (places.placed to place.len)) (table.span.at + to)
        (slice_range B (table.span.at + place.at) (table.span.at + place.at + place.len)) (store_of table B)
    moved slid' to down past =
        let g = place_inside in let long = region_length in let count = place_length in
        let ws = slice_range B (table.span.at + place.at) (table.span.at + place.at + place.len) in
        let is = changed slid' to ws i (places.placed to place.len) (omega arith) (λ j ne. grind (arith, past j ne)) in
        let new = block_written region to ws (omega arith) in
        let same = set-get_or (store_of table B).blocks i None in let old = block_is in
        record { stored = grind arith; rest = is.rest }
