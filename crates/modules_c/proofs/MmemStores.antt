-- What a table and a buffer stand for, before and after each change.
use Rattle.mmem_core.proofs.Words.{◌≡◌, ◌≢◌, ℕ, zero, suc, ◌+◌, true, false, IsSomeAnd, option_map, length-range, ◌-◌, ◌≤◌, ◌<◌, inl, inr, List, ◌∷◌, length, map, get_or, replicate, slice_set, sum_by, Option, Some, None, refl, sym, ap, ◌∙◌, arith, cases_eq, get_or-set_same, get_or-set_other, map-set, length-replicate, length-map, subst, up4, zeros, written, ManagedStore, block_of, unused, allocated, freed, place_in, last_end, at_of, room_of, LieApart}
use Rattle.std.specs.Prelude.{is_some}
use Rattle.std.proofs.lemmas.Bool.{false≢true}
use Rattle.mote_types.specs.Bytes.{range_of}
use Rattle.mmem_core.specs.Code.Conditions.{length_of}
use Rattle.mmem_core.specs.declared.place.Place.{Place}
use Rattle.arena_core.proofs.Ranges.{length-written}
use Rattle.mmem_core.proofs.PlaceLemmas.{placed, end_le_last, last_end-added, LieApart-added, LieApart-freed, LieApart-none}
use Rattle.mmem_core.proofs.StoreLemmas.{block_in, get_or-blocks, sum_same, blocks-set, block_written, unused-added}
use Rattle.modules_c.specs.declared.mmem.block.Block.{Block}
use Rattle.modules_c.specs.Mmem.Stored.{place_told, places_told, stored, IsTable, LieNoHigher, KeepOrder, process_of, handle_of, unused_store}
use Rattle.modules_c.specs.Mmem.Answers.{is_live}
use Rattle.modules_c.specs.Code.MmemRows.{row_of, LiesBehind}
use Rattle.modules_c.proofs.MmemRows.{table_lies, table_of, number_is, told_some, live_is, unused_is}

pub same_store : (size size' : ℕ) (blocks blocks' : List (Option (List ℕ))) → size ≡ size' → blocks ≡ blocks'
    → let one : ManagedStore = record { capacity = size; quota = None; blocks = blocks } in let other : ManagedStore =
    record { capacity = size'; quota = None; blocks = blocks' } in one ≡ other
same_store size size' blocks blocks' e f = cc

module _ (table : List Block) where
  pub told-set : (i : ℕ) (row : Block)
      → places_told (slice_set table i row) ≡ slice_set (places_told table) i (place_told row)
  told-set i row = map-set place_told table i row

  module _ (buffer : List ℕ) where
    pub block_is : (handle : ℕ)
        → block_of (process_of handle) (handle_of handle) (stored table buffer) ≡ block_in buffer (place_in (places_told table) handle)
    block_is handle = ap (λ i. get_or (stored table buffer).blocks i None) (number_is handle)
        ∙ get_or-blocks buffer (places_told table) handle

    -- the free bytes are those that the positions leave
    pub unused_left : IsTable table (length buffer)
        → unused (stored table buffer) ≡ length buffer - sum_by room_of (places_told table)
    unused_left sound =
        ap (λ n. length buffer - n) (sum_same buffer (places_told table) (table_lies table (length buffer) sound).inside)

-- a new block after the last one
module _ (table : List Block) (buffer : List ℕ) (i : ℕ) (row : Block) (below : i < length table) (sound : IsTable table (length buffer))
    (lies : LiesBehind table (length buffer) row) where
  abbrev xs : List (Option Place)
  xs = places_told table

  abbrev fresh : Option Place
  fresh = placed (last_end xs) row.size

  abbrev added : List Block
  added = slice_set table i row

  told_added : places_told added ≡ slice_set xs i fresh
  told_added = told-set table i row ∙ ap (slice_set xs i) (told_some row lies.some_bytes ∙ ap (λ at. placed at row.size) lies.end)

  pub table_added : IsTable added (length (written buffer row.offset (zeros row.size)))
  table_added =
      let long = length-map table place_told in
      table_of added (length (written buffer row.offset (zeros row.size)))
      (rw (told_added, length-written) (LieApart-added xs i row.size (omega arith) (length buffer)
      (table_lies table (length buffer) sound) lies.some_bytes
      (omega arith)))

  pub last_added : last_end (places_told added) ≡ row.offset + up4 row.size
  last_added = let long = length-map table place_told in rw told_added ((last_end-added xs i row.size (omega arith)) ∙ ap
      (λ at. at + up4 row.size) (sym lies.end))

  pub added_behind : IsSomeAnd (place_in (places_told added) i) (λ place. last_end (places_told added) ≡ place.at + up4 row.size)
  added_behind = let last = last_added in let long = length-map table place_told in grind
      (arith, get_or-set_same xs i fresh None (omega arith), told_added)

  pub store_added : stored added (written buffer row.offset (zeros row.size))
      ≡ allocated (process_of i) (handle_of i) row.size (stored table buffer)
  store_added =
      let ws = zeros row.size in let count : length ws ≡ row.size = length-replicate row.size 0 in
      let fits : row.offset + length ws ≤ length buffer = omega arith in
      let there = told-set table i row ∙ ap (slice_set xs i) (told_some row lies.some_bytes ∙ ap (placed row.offset) (sym count)) in
      same_store _ _ _ _ (length-written buffer row.offset ws)
      (ap (map (block_in (written buffer row.offset ws))) there
      ∙ blocks-set buffer row.offset ws fits xs i (placed row.offset (length ws)) (λ j _. inl (omega (arith, end_le_last xs j)))
      ∙ ap (slice_set (stored table buffer).blocks i) (block_written buffer row.offset ws fits)
      ∙ ap (λ k. slice_set (stored table buffer).blocks k (Some ws)) (sym (number_is i)))

map-replicate : {X Y : Type 0} (f : X → Y) (n : ℕ) (x : X) → map f (replicate n x) ≡ replicate n (f x)
map-replicate f zero x = refl
map-replicate f (suc n) x = ap (λ l. f x ∷ l) (map-replicate f n x)

-- a row without a block
abbrev no_row : Block
no_row = record { offset = 0; size = 0 }

pub live_some : (table : List Block) (buffer : List ℕ) (i : ℕ) → 0 < (row_of table i).size → is_live i (stored table buffer) ≡ true
live_some table buffer i some = ap is_some (block_is table buffer i ∙ ap (block_in buffer) (live_is table i some))

pub table_freed : {table : List Block} {capacity : ℕ} (i : ℕ) → IsTable table capacity → i < length table
    → IsTable (slice_set table i no_row) capacity
table_freed {table = table} {capacity = capacity} i sound below = table_of (slice_set table i no_row) capacity
    (subst (λ places. LieApart places capacity) (sym (told-set table i no_row))
    (LieApart-freed (places_told table) capacity i (omega (arith, length-map table place_told)) (table_lies table capacity sound)))

-- if blocks moved down, and an unused handle got one, none is higher
pub no_higher : (old now : List Block) (i : ℕ) (row : Block) → (row_of old i).size ≡ 0
    → ((j : ℕ) → at_of (place_in (places_told now) j) ≤ at_of (place_in (places_told old) j)) → LieNoHigher old (slice_set now i row)
no_higher old now i row none down j before after e f =
    grind (arith, unused_is old i none, told-set, get_or-set_other)

-- the order is unchanged
pub same_order : (old now : List Block) (i : ℕ) (row : Block) → (row_of old i).size ≡ 0
    → ((j : ℕ) → place_in (places_told old) j ≢ None → 0 < room_of (place_in (places_told old) j))
    → ((j k : ℕ) → 0 < room_of (place_in (places_told old) j) → at_of (place_in (places_told old) j) < at_of (place_in (places_told old) k)
    → at_of (place_in (places_told now) j) < at_of (place_in (places_told now) k))
    → KeepOrder old (slice_set now i row)
same_order old now i row none some order j k low high new_low new_high e f g h less =
    grind (arith, unused_is old i none, told-set, get_or-set_other, order j k)

module _ (table : List Block) where
  pub live_none : (buffer : List ℕ) (i : ℕ) → (row_of table i).size ≡ 0 → is_live i (stored table buffer) ≡ false
  live_none buffer i none = ap is_some (block_is table buffer i ∙ ap (block_in buffer) (unused_is table i none))

  pub still_unused : (table' : List Block) (buffer buffer' : List ℕ) (i : ℕ) → stored table' buffer' ≡ stored table buffer
      → (row_of table i).size ≡ 0 → (row_of table' i).size ≡ 0
  still_unused table' buffer buffer' i same none = elim (cases_eq (row_of table' i).size 0) [
    | inl e ↦ e
    | inr ne ↦ absurd (false≢true (sym (live_none buffer i none) ∙ ap (is_live i) (sym same) ∙ live_some table' buffer' i (omega arith)))
  ]

  module _ (buffer : List ℕ) where
    module _ (i : ℕ) where
      pub store_freed : stored (slice_set table i no_row) buffer ≡ freed (process_of i) (handle_of i) (stored table buffer)
      store_freed =
          same_store _ _ _ _ refl
          (ap (map (block_in buffer)) (told-set table i no_row)
          ∙ map-set (block_in buffer) (places_told table) i None
          ∙ ap (λ k. slice_set (stored table buffer).blocks k None) (sym (number_is i)))

      pub block_read : (capacity : ℕ) → 0 < (row_of table i).size
          → (row_of table i).offset + up4 (row_of table i).size ≤ capacity → length buffer ≡ capacity
          → IsSomeAnd (length_of (process_of i) (handle_of i) (stored table buffer)) (λ len. ((row_of table i).offset + len ≤ capacity)
          × (block_of (process_of i) (handle_of i) (stored table buffer) ≡ Some (range_of (row_of table i).offset len buffer)))
      block_read capacity some room size =
          let at = (row_of table i).offset in let len = (row_of table i).size in
          let fits : at + len ≤ length buffer = omega arith in
          let long = length-range buffer at len fits in
          let block = block_is table buffer i ∙ ap (block_in buffer) (live_is table i some) in
          subst (λ (o : Option (List ℕ)). IsSomeAnd (option_map length o)
          (λ n. (at + n ≤ capacity) × (o ≡ Some (range_of at n buffer)))) (sym block)
          (omega arith, ap (λ n. Some (range_of at n buffer)) (sym long))

      pub no_block : (row_of table i).size ≡ 0
          → block_of (process_of i) (handle_of i) (stored table buffer) ≡ None
      no_block none = block_is table buffer i ∙ ap (block_in buffer) (unused_is table i none)

      pub unused_after : (size : ℕ) → i < length table → (row_of table i).size ≡ 0
          → unused (allocated (process_of i) (handle_of i) size (stored table buffer)) ≡ unused (stored table buffer) - up4 size
      unused_after size below none =
          grind (
            arith,
            unused-added (stored table buffer) i size
                (omega (arith, length-map (places_told table) (block_in buffer), length-map table place_told)),
            no_block none,
          )

module _ (count : ℕ) where
  told_unused : places_told (replicate count no_row) ≡ replicate count None
  told_unused = map-replicate place_told count no_row

  pub store_unused : (buffer : List ℕ) → stored (replicate count no_row) buffer ≡ unused_store count (length buffer)
  store_unused buffer =
      same_store _ _ _ _ refl
      (ap (map (block_in buffer)) told_unused ∙ map-replicate (block_in buffer) count None)

  pub table_unused : (capacity : ℕ) → IsTable (replicate count no_row) capacity
  table_unused capacity =
      table_of (replicate count no_row) capacity
      (subst (λ places. LieApart places capacity) (sym told_unused)
      (LieApart-none count capacity))
