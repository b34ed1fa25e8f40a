-- Rows that are a table, and the free memory between them.
use Rattle.std.proofs.Common.{◌≡◌, ℕ, zero, suc, ◌+◌, ◌≤◌, ◌<◌, inl, inr, List, [], ◌∷◌, ◌++◌, length, slice_index_or, refl, ap, arith}
use Rattle.std.specs.List.Sorted.{IsNonDecreasingBy}
use Rattle.modules_c.specs.declared.heapmem.row.Row.{Row}
use Rattle.modules_c.specs.Heapmem.Heaps.{room_of, LieFrom, IsTable}
use Rattle.modules_c.specs.Code.HeapmemRows.{IsFree, next_place, row_of, with_row, without_row}

pub lie_le : (from : ℕ) (rows : List Row) (capacity : ℕ) → LieFrom from rows capacity → from ≤ capacity
lie_le from [] capacity lie = lie
lie_le from (row ∷ rows) capacity lie = omega (arith, lie_le (row.offset + room_of row) rows capacity lie.2)

lie_lower : (from lower : ℕ) (rows : List Row) (capacity : ℕ) → lower ≤ from → LieFrom from rows capacity → LieFrom lower rows capacity
lie_lower from lower [] capacity le lie = omega arith
lie_lower from lower (row ∷ rows) capacity le lie = (omega arith, lie.1, lie.2)

pub lie_append : (from mid : ℕ) (xs ys : List Row) (capacity : ℕ) → LieFrom from xs mid → LieFrom mid ys capacity
    → LieFrom from (xs ++ ys) capacity
lie_append from mid [] ys capacity h k = lie_lower mid from ys capacity h k
lie_append from mid (row ∷ xs) ys capacity h k = (h.0, h.1, lie_append (row.offset + room_of row) mid xs ys capacity h.2 k)

pub lie_without : (from : ℕ) (rows : List Row) (capacity i : ℕ) → LieFrom from rows capacity → LieFrom from (without_row i rows) capacity
lie_without from [] capacity i lie = lie
lie_without from (row ∷ rows) capacity zero lie = grind (arith, lie_lower)
lie_without from (row ∷ rows) capacity (suc i) lie = (lie.0, lie.1, lie_without (row.offset + room_of row) rows capacity i lie.2)

above : (from : ℕ) (rows : List Row) (capacity j : ℕ) (d : Row) → LieFrom from rows capacity → j < length rows
    → from ≤ (slice_index_or rows j d).offset
above from [] capacity j d lie l = absurd (omega arith)
above from (row ∷ rows) capacity zero d lie l = lie.0
above from (row ∷ rows) capacity (suc j) d lie l = omega (arith, above (row.offset + room_of row) rows capacity j d lie.2 (omega arith))

pub places_rise : (from : ℕ) (rows : List Row) (capacity : ℕ) → LieFrom from rows capacity
    → IsNonDecreasingBy (λ (row : Row). row.offset) rows
places_rise from [] capacity lie i j d le l = absurd (omega arith)
places_rise from (row ∷ rows) capacity lie zero zero d le l = omega arith
places_rise from (row ∷ rows) capacity lie zero (suc j) d le l =
    omega (arith, above (row.offset + room_of row) rows capacity j d lie.2 (omega arith))
places_rise from (row ∷ rows) capacity lie (suc i) zero d le l = absurd (omega arith)
places_rise from (row ∷ rows) capacity lie (suc i) (suc j) d le l =
    places_rise (row.offset + room_of row) rows capacity lie.2 i j d (omega arith) (omega arith)

-- where the first of these begins
abbrev pub first_place : List Row → ℕ → ℕ
first_place [] capacity = capacity
first_place (row ∷ rows) capacity = row.offset

pub first_between : (from : ℕ) (rows : List Row) (capacity : ℕ) → LieFrom from rows capacity
    → (from ≤ first_place rows capacity) × (first_place rows capacity ≤ capacity)
first_between from [] capacity lie = (lie, omega arith)
first_between from (row ∷ rows) capacity lie = (lie.0, omega (arith, lie_le (row.offset + room_of row) rows capacity lie.2))

-- a row by its number: the others end before it, or begin after it
pub record Among (from : ℕ) (rows : List Row) (capacity i : ℕ) : Type 0 where
  pub before : List Row
  pub behind : List Row
  pub is : rows ≡ before ++ (row_of rows i ∷ behind)
  pub without : without_row i rows ≡ before ++ behind
  pub number : length before ≡ i
  pub more : length rows ≡ suc (i + length behind)
  pub front : LieFrom from before (row_of rows i).offset
  pub rest : LieFrom (row_of rows i).offset (row_of rows i ∷ behind) capacity
  pub next : next_place i rows capacity ≡ first_place behind capacity

pub among : (from : ℕ) (rows : List Row) (capacity i : ℕ) → LieFrom from rows capacity → i < length rows → Among from rows capacity i
among from [] capacity i lie below = absurd (omega arith)
among from (row ∷ rows) capacity zero lie below = record {
  before = [];
  behind = rows;
  is = refl;
  without = refl;
  number = refl;
  more = omega arith;
  front = lie.0;
  rest = (omega arith, lie.1, lie.2);
  next = grind arith;
}
among from (row ∷ rows) capacity (suc i) lie below =
    let a = among (row.offset + room_of row) rows capacity i lie.2 (omega arith) in
    record {
      before = row ∷ a.before;
      behind = a.behind;
      is = ap (λ l. row ∷ l) a.is;
      without = ap (λ l. row ∷ l) a.without;
      number = omega arith;
      more = omega arith;
      front = (lie.0, lie.1, a.front);
      rest = a.rest;
      next = let e : suc i + 1 ≡ suc (i + 1) = omega arith in let next = a.next in grind arith;
    }

-- its room ends before the next one begins
pub row_lies : (rows : List Row) (capacity i : ℕ) → IsTable rows capacity → i < length rows
    → ((row_of rows i).offset + room_of (row_of rows i) ≤ next_place i rows capacity) × (next_place i rows capacity ≤ capacity)
row_lies rows capacity i lie below =
    let a = among 0 rows capacity i lie below in
    let first = first_between ((row_of rows i).offset + room_of (row_of rows i)) a.behind capacity a.rest.2 in
    (omega arith, omega arith)

-- free bytes: the rows are before or after them
pub record Between (from : ℕ) (rows : List Row) (capacity at len : ℕ) : Type 0 where
  pub before : List Row
  pub behind : List Row
  pub is : rows ≡ before ++ behind
  pub front : LieFrom from before at
  pub back : LieFrom (at + len) behind capacity

pub between : (from : ℕ) (rows : List Row) (capacity at len : ℕ) → LieFrom from rows capacity → IsFree from rows capacity at len
    → Between from rows capacity at len
between from [] capacity at len lie free = record { before = []; behind = []; is = refl; front = free.0; back = free.1 }
between from (row ∷ rows) capacity at len lie (inl here) =
    record { before = []; behind = row ∷ rows; is = refl; front = here.0; back = (here.1, lie.1, lie.2) }
between from (row ∷ rows) capacity at len lie (inr later) = let b = between (row.offset + room_of row) rows capacity at len lie.2 later in
    record { before = row ∷ b.before; behind = b.behind; is = grind arith; front = grind arith; back = b.back }

pub free_between : (from : ℕ) (xs ys : List Row) (capacity at len : ℕ) → LieFrom from xs at → at + len ≤ first_place ys capacity
    → IsFree from (xs ++ ys) capacity at len
free_between from [] [] capacity at len lie le = (lie, le)
free_between from [] (row ∷ ys) capacity at len lie le = inl (lie, le)
free_between from (row ∷ xs) ys capacity at len lie le = inr (free_between (row.offset + room_of row) xs ys capacity at len lie.2 le)

pub with_row_between : (from : ℕ) (xs ys : List Row) (low capacity : ℕ) (row : Row) → LieFrom from xs row.offset → LieFrom low ys capacity
    → row.offset < low → with_row row (xs ++ ys) ≡ xs ++ (row ∷ ys)
with_row_between from [] [] low capacity row h k less = refl
with_row_between from [] (next ∷ ys) low capacity row h k less = grind arith
with_row_between from (other ∷ xs) ys low capacity row h k less =
    grind (
      arith,
      with_row_between (other.offset + room_of other) xs ys low capacity row h.2 k less,
      lie_le
          (other.offset + room_of other) xs row.offset h.2,
    )

-- fewer bytes from the same position on are free too
pub free_shorter : (from : ℕ) (rows : List Row) (capacity at len fewer : ℕ) → fewer ≤ len → IsFree from rows capacity at len
    → IsFree from rows capacity at fewer
free_shorter from [] capacity at len fewer le free = (free.0, omega arith)
free_shorter from (row ∷ rows) capacity at len fewer le (inl here) = inl (here.0, omega arith)
free_shorter from (row ∷ rows) capacity at len fewer le (inr later) =
    inr (free_shorter (row.offset + room_of row) rows capacity at len fewer le later)
