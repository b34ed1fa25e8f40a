-- A resized block, in place or elsewhere.
use Rattle.std.proofs.Common.{◌≡◌, ◌≢◌, ℕ, zero, suc, ◌+◌, ◌-◌, ◌≤◌, ◌<◌, ◌⊎◌, inl, inr, List, [], ◌∷◌, ◌++◌, length, map, fold, take, slice_set, Option, Some, None, refl, sym, ap, ◌∙◌, subst, arith}
use Rattle.std.specs.Prelude.{find, ◌==◌, nat_le, if◌then◌else◌}
use Rattle.std.specs.Option.{option_map_or}
use Rattle.std.proofs.Common.{length-append}
use Rattle.std.proofs.lemmas.List.{append_assoc, take_at, drop_at, drop-drop, length-take-le, length-replicate, map-append, set_at}
use Rattle.std.proofs.lemmas.List.Sums.{fold-append}
use Rattle.arena_core.specs.Code.Written.{written}
use Rattle.arena_core.proofs.Ranges.{length-written}
use Rattle.arena_core.proofs.Rows.{written_is}
use Rattle.mote_types.specs.Bytes.{range_of, resized}
use Rattle.heap_core.specs.declared.chunk.Gap.{Gap}
use Rattle.heap_core.specs.HeapStore.{HeapStore, end_of, footprint, gaps_from, gap_at, room_taken, least_room, room_in_place, place_of}
use Rattle.modules_c.specs.declared.heapmem.row.Row.{Row}
use Rattle.modules_c.specs.Heapmem.Heaps.{block_told, heap_of, size_of, room_of, LieFrom, IsTable, with_resized}
use Rattle.modules_c.specs.Code.HeapmemRows.{row_of, with_row, without_row, next_place, IsFree}
use Rattle.modules_c.proofs.HeapmemTables.{lie_le, lie_without, first_between, Among, among, between, free_between, with_row_between}
use Rattle.modules_c.proofs.HeapmemSums.{ended_above}
use Rattle.modules_c.proofs.HeapmemPuts.{put_is, put_table, gone_is}

-- two writes, one directly after the other
pub written_behind : (bytes : List ℕ) (at : ℕ) (xs ys : List ℕ) (behind : ℕ) → behind ≡ at + length xs
    → at + (length xs + length ys) ≤ length bytes
    → written (written bytes at xs) behind ys ≡ written bytes at (xs ++ ys)
written_behind bytes at xs ys behind e fits =
    let once = written bytes at xs in
    let long = length-written bytes at xs in
    let both = length-append xs ys in
    let first = length-take-le at bytes (omega arith) in
    let size : length (take at bytes ++ xs) ≡ behind = grind (arith, length-append) in
    grind (arith, written_is, append_assoc, drop-drop, drop_at, take_at)

-- a block's row is replaced
pub set_is : (rows : List Row) (capacity i : ℕ) (row : Row) → IsTable rows capacity → i < length rows → row.offset ≡ (row_of rows i).offset
    → slice_set rows i row ≡ with_row row (without_row i rows)
set_is rows capacity i row lie below e = let a = among 0 rows capacity i lie below in let old = row_of rows i in
    grind (
      arith,
      set_at a.before old a.behind row i a.number,
      with_row_between 0 a.before a.behind (old.offset + room_of old) capacity row
          (subst (LieFrom 0 a.before) (sym e) a.front) a.rest.2
          (omega arith),
    )

without_either : (xs ys : List Row) (i : ℕ)
    → (without_row i (xs ++ ys) ≡ without_row i xs ++ ys) ⊎ ((j : ℕ) × (without_row i (xs ++ ys) ≡ xs ++ without_row j ys))
without_either [] ys i = inr (i, refl)
without_either (row ∷ xs) ys zero = inl refl
without_either (row ∷ xs) ys (suc i) = elim (without_either xs ys i) [
  | inl early ↦ inl (ap (λ l. row ∷ l) early)
  | inr late ↦ inr (late.0, ap (λ l. row ∷ l) late.1)
]

pub free_without : (rows : List Row) (capacity at len i : ℕ) → IsTable rows capacity → IsFree 0 rows capacity at len
    → IsFree 0 (without_row i rows) capacity at len
free_without rows capacity at len i lie free =
    let b = between 0 rows capacity at len lie free in let is = ap (without_row i) b.is in
    elim (without_either b.before b.behind i) [
      | inl early ↦ subst (λ (l : List Row). IsFree 0 l capacity at len) (sym (is ∙ early))
          (free_between 0 (without_row i b.before) b.behind capacity at len (lie_without 0 b.before at i b.front)
          (first_between (at + len) b.behind capacity b.back).0)
      | inr late ↦ subst (λ (l : List Row). IsFree 0 l capacity at len) (sym (is ∙ late.1))
          (free_between 0 b.before (without_row late.0 b.behind) capacity at len b.front
          (first_between (at + len) (without_row late.0 b.behind) capacity (lie_without (at + len) b.behind capacity late.0 b.back)).0)
    ]

-- a block's range is free without it, up to the next block
pub own_free : (rows : List Row) (capacity i len : ℕ) → IsTable rows capacity → i < length rows
    → (row_of rows i).offset + len ≤ next_place i rows capacity
    → IsFree 0 (without_row i rows) capacity (row_of rows i).offset len
own_free rows capacity i len lie below le = let a = among 0 rows capacity i lie below in
    grind (arith, free_between 0 a.before a.behind capacity (row_of rows i).offset len a.front (omega arith))

module _ (rows : List Row) (bytes : List ℕ) (i n : ℕ) (lie : IsTable rows (length bytes)) (below : i < length rows) where
  abbrev old : Row
  old = row_of rows i

  abbrev ws : List ℕ
  ws = resized n (range_of old.offset (size_of old) bytes)

  module _ (row : Row) (at room : ℕ) (at_is : row.offset ≡ at) (room_is : room_of row ≡ room) (size_is : size_of row ≡ n)
      (size : length ws ≡ n) (free : IsFree 0 (without_row i rows) (length bytes) at room) where
    pub moved_is : heap_of (with_row row (without_row i rows)) (written bytes at ws) ≡ with_resized (record { at = at; room = room }) n
        (block_told bytes old) (heap_of rows bytes)
    moved_is = grind (arith, put_is, lie_without, gone_is)

    pub moved_table : 1 ≤ room → IsTable (with_row row (without_row i rows)) (length (written bytes at ws))
    moved_table some = grind (arith, put_table, lie_without)

pub length-resized : (n : ℕ) (xs : List ℕ) → length (resized n xs) ≡ n
length-resized n xs = grind (arith, length-take-le, length-append, length-replicate)

module _ (bytes : List ℕ) where
  abbrev ended : ℕ → List Row → ℕ
  ended from rows = fold (λ _ block. end_of 0 block) from (map (block_told bytes) rows)

  abbrev gaps_behind : ℕ → List Row → List Gap
  gaps_behind from rows = gaps_from 0 from (map (block_told bytes) rows)

  abbrev len_at : ℕ → List Gap → ℕ
  len_at at gaps = option_map_or (λ (gap : Gap). gap.len) (find (λ (gap : Gap). gap.at == at) gaps) 0

  none_there : (from : ℕ) (rows : List Row) (capacity at : ℕ) → LieFrom from rows capacity → at < from
      → len_at at (gaps_behind from rows) ≡ 0
  none_there from [] capacity at lie less = refl
  none_there from (row ∷ rows) capacity at lie less =
      grind (arith, none_there (row.offset + room_of row) rows capacity at lie.2 (omega arith))

  -- the gaps below a position
  gaps_passed : (from : ℕ) (xs : List Row) (row : Row) (ys : List Row) (at : ℕ) → LieFrom from xs row.offset → row.offset < at
      → len_at at (gaps_behind from (xs ++ (row ∷ ys))) ≡ len_at at (gaps_behind (row.offset + room_of row) ys)
  gaps_passed from [] row ys at lie less = grind arith
  gaps_passed from (x ∷ xs) row ys at lie less =
      grind (arith, gaps_passed (x.offset + room_of x) xs row ys at lie.2 less, lie_le (x.offset + room_of x) xs row.offset lie.2)

-- the room of a block that is resized in place
module _ (rows : List Row) (bytes : List ℕ) (i n : ℕ) (lie : IsTable rows (length bytes)) (below : i < length rows) where
  abbrev here : Row
  here = row_of rows i

  abbrev least : ℕ
  least = least_room 0 n

  abbrev end : ℕ
  end = here.offset + room_of here

  abbrev most : ℕ
  most = next_place i rows (length bytes) - here.offset

  abbrev store : HeapStore
  store = heap_of rows bytes

  a : Among 0 rows (length bytes) i
  a = among 0 rows (length bytes) i lie below

  abbrev in_place : Option ℕ
  in_place = room_in_place (place_of (block_told bytes here)) n store

  foot_split : footprint store ≡ ended bytes end a.behind
  foot_split = grind (arith, map-append, fold-append)

  module _ (last : i + 1 ≡ length rows) where
    no_more : (l : List Row) → a.behind ≡ l → (footprint store ≡ end) × (next_place i rows (length bytes) ≡ length bytes)
    no_more [] e = grind (arith, foot_split)
    no_more (next ∷ l) e = absurd (omega (arith, a.more, ap length e))

    pub room_last : room_of here < least → in_place ≡ (if nat_le least most then Some least else None)
    room_last less = grind (arith, no_more a.behind refl)

  module _ (more : i + 1 < length rows) where
    one_more : (l : List Row) → a.behind ≡ l → (end ≢ footprint store) × (gap_at end store ≡ next_place i rows (length bytes) - end)
    one_more [] e = absurd (omega (arith, a.more, ap length e))
    one_more (next ∷ l) e =
        let back : LieFrom end (next ∷ l) (length bytes) = subst (λ (k : List Row). LieFrom end k (length bytes)) e a.rest.2 in
        let same_end : next.offset + (0 + room_of next) ≡ next.offset + room_of next = omega arith in
        let up = ended_above bytes (next.offset + room_of next) l (length bytes) back.2 in
        let none = none_there bytes (next.offset + room_of next) l (length bytes) end back.2 (omega arith) in
        let passed = gaps_passed bytes 0 a.before here a.behind end a.front (omega (arith, a.rest.1)) in (
          λ same. absurd (omega (arith, foot_split, ap (ended bytes end) e, ap (λ k. ended bytes k l) same_end, up, back.0, back.1)),
          grind arith,
        )

    pub room_next : room_of here < least → in_place ≡ (if nat_le least most then Some (room_taken least most) else None)
    room_next less = grind (arith, one_more a.behind refl)
