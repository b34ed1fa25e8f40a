-- What rows stand for, before and after one is added, removed or changed.
use Rattle.std.proofs.Common.{◌≡◌, ◌≢◌, ℕ, zero, suc, ◌+◌, ◌-◌, ◌≤◌, ◌<◌, ◌⊎◌, inl, inr, not, List, [], ◌∷◌, ◌++◌, length, map, filter, take, drop, set, slice_set, Some, None, refl, sym, ap, ◌∙◌, arith}
use Rattle.std.specs.Prelude.{find}
use Rattle.std.specs.List.{copy_within}
use Rattle.std.proofs.lemmas.Bool.{eq-eqb}
use Rattle.std.proofs.lemmas.List.{take-take, take_at, take_all, drop_all, take_more, drop-take, length-take-le, length-append, append_assoc, append-nil, set_at, length-drop, map-append}
use Rattle.std.proofs.lemmas.List.Elements.{filter-append}
use Rattle.std.proofs.lemmas.List.Folds.{find-append}
use Rattle.arena_core.specs.Code.Written.{written}
use Rattle.arena_core.proofs.Ranges.{range-written_apart}
use Rattle.heap_core.specs.HeapStore.{Block, placed, has_name}
use Rattle.heap_core.proofs.Lemmas.Names.{count_absent, filter_unnamed}
use Rattle.modules_c.specs.declared.heapmem.row.Row.{Row}
use Rattle.modules_c.specs.Heapmem.Heaps.{block_told, room_of, LieFrom, IsTable, front}
use Rattle.modules_c.specs.Code.HeapmemRows.{row_of, with_row, without_row, IsFree, BeginBelow}
use Rattle.modules_c.proofs.HeapmemTables.{lie_le, lie_append, between, among, with_row_between}

pub without_is : (i : ℕ) (rows : List Row) → i < length rows → without_row i rows ≡ take i rows ++ drop (i + 1) rows
without_is i [] l = absurd (omega arith)
without_is zero (row ∷ rows) l = refl
without_is (suc i) (row ∷ rows) l =
    let e : suc i + 1 ≡ suc (i + 1) = omega arith in let later = without_is i rows (omega arith) in grind arith

pub removed : (rows : List Row) (i : ℕ) → i < length rows → front (copy_within rows (i + 1) (length rows) i) ≡ without_row i rows
removed rows i l = grind (arith, length-drop, take_all, length-append, take_at, without_is)

pub free_inside : (rows : List Row) (capacity at len : ℕ) → IsTable rows capacity → IsFree 0 rows capacity at len → at + len ≤ capacity
free_inside rows capacity at len lie free = let b = between 0 rows capacity at len lie free in lie_le (at + len) b.behind capacity b.back

-- a row for a block there keeps the table
pub table_with : (rows : List Row) (capacity : ℕ) (row : Row) → 1 ≤ room_of row → IsTable rows capacity
    → IsFree 0 rows capacity row.offset (room_of row) → IsTable (with_row row rows) capacity
table_with rows capacity row some lie free = let b = between 0 rows capacity row.offset (room_of row) lie free in
    grind (
      arith,
      lie_append 0 row.offset b.before (row ∷ b.behind) capacity b.front (omega arith, some, b.back),
      with_row_between 0 b.before b.behind (row.offset + room_of row) capacity row b.front b.back (omega arith),
    )

-- bytes written between the blocks are no block's
module _ (bytes : List ℕ) (at : ℕ) (ws : List ℕ) (inside : at + length ws ≤ length bytes) where
  kept_beside : (from : ℕ) (rows : List Row) (capacity : ℕ) → LieFrom from rows capacity → (capacity ≤ at) ⊎ (at + length ws ≤ from)
      → map (block_told (written bytes at ws)) rows ≡ map (block_told bytes) rows
  kept_beside from [] capacity lie side = refl
  kept_beside from (row ∷ rows) capacity lie side = grind (
    arith,
    range-written_apart,
    kept_beside
        (row.offset + room_of row) rows capacity lie.2 (grind arith),
    lie_le (row.offset + room_of row) rows capacity lie.2,
  )

  pub kept : (rows : List Row) (capacity len : ℕ) → IsTable rows capacity → IsFree 0 rows capacity at len → length ws ≤ len
      → map (block_told (written bytes at ws)) rows ≡ map (block_told bytes) rows
  kept rows capacity len lie free le =
      let b = between 0 rows capacity at len lie free in
      grind (
        arith,
        map-append,
        kept_beside (at + len) b.behind capacity b.back (inr (omega arith)),
        kept_beside 0 b.before at b.front
            (inl (omega arith)),
      )

module _ (bytes : List ℕ) where
  pub told_with : (row : Row) (rows : List Row)
      → map (block_told bytes) (with_row row rows) ≡ placed (block_told bytes row) (map (block_told bytes) rows)
  told_with row [] = refl
  told_with row (other ∷ rows) = grind (arith, told_with row rows)

  -- a block is named by its position
  none_named : (from : ℕ) (rows : List Row) (capacity name : ℕ) → LieFrom from rows capacity → (name < from) ⊎ (capacity ≤ name)
      → find (has_name name) (map (block_told bytes) rows) ≡ None
  none_named from [] capacity name lie side = refl
  none_named from (row ∷ rows) capacity name lie side =
      grind (
        arith,
        none_named (row.offset + room_of row) rows capacity name lie.2
            (grind arith),
        lie_le (row.offset + room_of row) rows capacity lie.2,
      )

  pub no_block : (rows : List Row) (at : ℕ) → ((j : ℕ) → j < length rows → (row_of rows j).offset ≢ at)
      → find (has_name at) (map (block_told bytes) rows) ≡ None
  no_block [] at none = refl
  no_block (row ∷ rows) at none =
      grind (arith, no_block rows at (λ j l. none (suc j) (omega arith)), none 0 (omega arith))

  module _ (rows : List Row) (capacity i : ℕ) (lie : IsTable rows capacity) (below : i < length rows) where
    abbrev row : Row
    row = row_of rows i

    abbrev before : List Block
    before = map (block_told bytes) (among 0 rows capacity i lie below).before

    abbrev behind : List Block
    behind = map (block_told bytes) (among 0 rows capacity i lie below).behind

    none_before : find (has_name row.offset) before ≡ None
    none_before = let a = among 0 rows capacity i lie below in none_named 0 a.before row.offset row.offset a.front (inr (omega arith))

    none_behind : find (has_name row.offset) behind ≡ None
    none_behind = let a = among 0 rows capacity i lie below in
        none_named (row.offset + room_of row) a.behind capacity row.offset a.rest.2 (inl (omega arith))

    all_told : map (block_told bytes) rows ≡ before ++ (block_told bytes row ∷ behind)
    all_told = let a = among 0 rows capacity i lie below in
        ap (map (block_told bytes)) a.is ∙ map-append (block_told bytes) a.before (row ∷ a.behind)

    pub block_found : find (has_name row.offset) (map (block_told bytes) rows) ≡ Some (block_told bytes row)
    block_found = grind (arith, all_told, find-append, none_before)

    pub told_without : filter (λ (block : Block). not (has_name row.offset block)) (map (block_told bytes) rows) ≡ map (block_told bytes)
        (without_row i rows)
    told_without =
        grind (
          arith,
          filter-append,
          map-append,
          eq-eqb,
          filter_unnamed row.offset behind (count_absent row.offset behind none_behind),
          filter_unnamed row.offset before (count_absent row.offset before none_before),
        )

module _ (row : Row) where
  pub with_row_at : (rows : List Row) (i : ℕ) → i ≤ length rows → BeginBelow rows row.offset i
      → (i < length rows → row.offset < (row_of rows i).offset)
      → with_row row rows ≡ take i rows ++ (row ∷ drop i rows)
  with_row_at [] zero le below above = refl
  with_row_at [] (suc i) le below above = absurd (omega arith)
  with_row_at (other ∷ rows) zero le below above = grind arith
  with_row_at (other ∷ rows) (suc i) le below above =
      grind (arith, with_row_at rows i (omega arith) (λ j l. below (suc j) (omega arith)) (λ l. above (omega arith)), below 0 (omega arith))

  -- the rows from the number on move up by one, and the new one is put there
  pub inserted : (rows : List Row) (i last : ℕ) → length rows ≡ last + 1 → i ≤ length (take last rows)
      → BeginBelow (take last rows) row.offset i
      → (i < length (take last rows) → row.offset < (row_of (take last rows) i).offset)
      → slice_set (copy_within rows i last (i + 1)) i row ≡ with_row row (take last rows)
  inserted rows i last size le below above =
      let d : Row = grind arith in
      let xs = take last rows in
      let rest = take (last - i) (drop i rows) in
      let long : length xs ≡ last = length-take-le last rows (omega arith) in
      let none : drop (i + 1 + (last - i)) rows ≡ [] = grind (arith, drop_all) in
      let e : last ≡ i + (last - i) = omega arith in
      let back : drop i xs ≡ rest = grind (arith, drop-take) in
      let moved : copy_within rows i last (i + 1) ≡ take i rows ++ (row_of rows i ∷ rest) =
      ap (λ l. (take (i + 1) rows ++ rest) ++ l) none
      ∙ append-nil (take (i + 1) rows ++ rest)
      ∙ ap (λ l. l ++ rest) (take_more rows i d (omega arith))
      ∙ append_assoc (take i rows) (row_of rows i ∷ []) rest in
      ap (λ l. set l i row) moved
      ∙ set_at (take i rows) (row_of rows i) rest row i (length-take-le i rows (omega arith))
      ∙ ap (λ l. l ++ (row ∷ rest)) (sym (take-take i last rows (omega arith)))
      ∙ ap (λ l. take i xs ++ (row ∷ l)) (sym back)
      ∙ sym (with_row_at xs i le below above)
