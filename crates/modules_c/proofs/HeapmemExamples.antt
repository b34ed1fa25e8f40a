-- Examples: rows, positions and outcomes.
use Rattle.std.proofs.Common.{◌≡◌, ℕ, ◌+◌, ◌-◌, ◌*◌, ◌≤◌, inl, inr, List, [], ◌∷◌, length, refl, arith}
use Rattle.std.specs.Prelude.{Some, None, map}
use Rattle.mote_types.specs.Bytes.{zeros}
use Rattle.heap_core.specs.HeapStore.{HeapStore, place, new_place}
use Rattle.modules_c.specs.declared.heapmem.row.Row.{Row}
use Rattle.modules_c.specs.declared.heapmem.outcome.Outcome.{Outcome}
use Rattle.modules_c.specs.Heapmem.Heaps.{heap_of, row_limit, size_of, rest_of, IsTable, front, with_new, with_resized}
use Rattle.modules_c.specs.Heapmem.Answers.{outcome_numbered, AllocTold, FreeTold, ReallocTold, StatsTold}
use Rattle.modules_c.specs.Code.HeapmemRows.{with_row, without_row, next_place, IsFree, HasNoPlace, BeginsAt, BeginBelow}

abbrev block_row : ℕ → ℕ → ℕ → Row
block_row offset room size = record { offset = offset; extent = size * 32 + (room - size) }

abbrev small : HeapStore
small = heap_of (block_row 0 2 1 ∷ block_row 4 3 3 ∷ []) (1 ∷ 2 ∷ 3 ∷ 4 ∷ 5 ∷ 6 ∷ 7 ∷ 8 ∷ 9 ∷ 10 ∷ [])

is_heap : small
    ≡ record {
      size = 10;
      header = 0;
      blocks = record { name = 0; at = 0; room = 2; bytes = 1 ∷ [] } ∷ record { name = 4; at = 4; room = 3; bytes = 5 ∷ 6 ∷ 7 ∷ [] } ∷ [];
    }
unfolding size_of rest_of
is_heap = refl

is_table : IsTable (block_row 0 2 1 ∷ block_row 4 3 3 ∷ []) 10
unfolding size_of rest_of
is_table = grind arith

no_blocks : IsTable [] 0
no_blocks = omega arith

sharing_a_byte : IsTable (block_row 0 5 1 ∷ block_row 4 3 3 ∷ []) 10 → ⊥
unfolding size_of rest_of
sharing_a_byte lie = omega (arith, lie.2.0)

higher_one_first : IsTable (block_row 4 3 3 ∷ block_row 0 2 1 ∷ []) 10 → ⊥
unfolding size_of rest_of
higher_one_first lie = omega (arith, lie.2.0)

past_the_end : IsTable (block_row 0 2 1 ∷ block_row 4 3 3 ∷ []) 6 → ⊥
unfolding size_of rest_of
past_the_end lie = omega (arith, lie.2.2)

no_room_at_all : IsTable (block_row 0 0 0 ∷ []) 10 → ⊥
unfolding size_of rest_of
no_room_at_all lie = omega (arith, lie.1)

all_but_the_last : front (block_row 0 2 1 ∷ block_row 4 3 3 ∷ []) ≡ block_row 0 2 1 ∷ []
unfolding size_of rest_of
all_but_the_last = refl

-- 160 bytes: gaps of 48 and 32 bytes, and 16 above the last block
abbrev heap : HeapStore
heap = heap_of (block_row 48 16 16 ∷ block_row 96 48 48 ∷ []) (zeros 160)

shortest_that_is_long_enough : place 20 heap ≡ Some (record { at = 64; room = 32 })
unfolding size_of rest_of
shortest_that_is_long_enough = refl

-- the rest of 48 less 36 is allocated too
with_its_rest : place 33 heap ≡ Some (record { at = 0; room = 48 })
unfolding size_of rest_of
with_its_rest = refl

-- 32 less 12 stays a gap
without_its_rest : place 10 heap ≡ Some (record { at = 64; room = 12 })
unfolding size_of rest_of
without_its_rest = refl

nowhere : place 49 heap ≡ None
unfolding size_of rest_of
nowhere = refl

grown_into_the_top : new_place (record { at = 96; room = 48 }) 60 heap ≡ Some (record { at = 96; room = 60 })
unfolding size_of rest_of
grown_into_the_top = refl

grown_into_a_gap : new_place (record { at = 48; room = 16 }) 20 heap ≡ Some (record { at = 48; room = 20 })
unfolding size_of rest_of
grown_into_a_gap = refl

moved_nowhere : new_place (record { at = 48; room = 16 }) 49 heap ≡ None
unfolding size_of rest_of
moved_nowhere = refl

new_block : with_new (record { at = 0; room = 4 }) 2
    (heap_of (block_row 8 2 2 ∷ []) (1 ∷ 1 ∷ 1 ∷ 1 ∷ 1 ∷ 1 ∷ 1 ∷ 1 ∷ 1 ∷ 1 ∷ []))
    ≡ heap_of (block_row 0 4 2 ∷ block_row 8 2 2 ∷ []) (0 ∷ 0 ∷ 1 ∷ 1 ∷ 1 ∷ 1 ∷ 1 ∷ 1 ∷ 1 ∷ 1 ∷ [])
unfolding size_of rest_of
new_block = refl

-- a block of one byte, moved to 4 and resized to three
resized_block : with_resized (record { at = 4; room = 4 }) 3 (record { name = 0; at = 0; room = 2; bytes = 7 ∷ [] })
    (heap_of (block_row 0 2 1 ∷ []) (7 ∷ 8 ∷ 9 ∷ 9 ∷ 9 ∷ 9 ∷ 9 ∷ 9 ∷ []))
    ≡ heap_of (block_row 4 4 3 ∷ []) (7 ∷ 8 ∷ 9 ∷ 9 ∷ 7 ∷ 0 ∷ 0 ∷ 9 ∷ [])
unfolding size_of rest_of
resized_block = refl

numbers : map outcome_numbered (0 ∷ 1 ∷ 2 ∷ 3 ∷ 4 ∷ [])
    ≡ Some Outcome.Done ∷ Some Outcome.NoTable ∷ Some Outcome.NoBlock ∷ Some Outcome.NoRoom ∷ Some Outcome.NoRow ∷ []
numbers = refl

no_such_number : outcome_numbered 5 ≡ None
no_such_number = refl

-- A malformed row, also after a sound one; a block with all 4 bytes of a heap
abbrev spoilt : List Row
spoilt = block_row 0 0 0 ∷ []

abbrev full : List Row
full = block_row 0 4 1 ∷ []

-- of several reasons only one is reported
no_row_is_told_first : AllocTold Outcome.NoTable 1 [] (zeros 4) → ⊥
no_row_is_told_first told = omega (arith, told.0)

a_row_is_there : AllocTold Outcome.NoRow 1 spoilt (zeros 4) → ⊥
unfolding size_of rest_of
a_row_is_there told = omega (arith, told)

-- the spare row may be malformed
no_rows_but_the_spare_one : AllocTold Outcome.NoTable 1 spoilt (zeros 4) → ⊥
unfolding size_of rest_of
no_rows_but_the_spare_one told = omega (arith, told.1 (omega arith))

-- a heap too large for 32 bits is refused, whatever its rows
too_large_for_rows : (bytes : List ℕ) → row_limit ≤ length bytes → AllocTold Outcome.NoTable 1 spoilt bytes
unfolding size_of rest_of
too_large_for_rows bytes large = (omega arith, λ table. large)

refused_where_there_is_room : AllocTold Outcome.NoRoom 4 (block_row 0 0 0 ∷ []) (zeros 16) → ⊥
unfolding size_of rest_of
refused_where_there_is_room told = grind arith

no_room_without_a_row : AllocTold Outcome.NoRoom 4 [] [] → ⊥
no_room_without_a_row told = omega (arith, told.0)

no_room_in_no_table : AllocTold Outcome.NoRoom 4 (block_row 0 0 0 ∷ spoilt) [] → ⊥
unfolding size_of rest_of
no_room_in_no_table told = omega (arith, told.1.1)

given_without_a_row : AllocTold Outcome.Done 4 [] (zeros 16) → ⊥
given_without_a_row told = omega (arith, told.0)

given_in_no_table : AllocTold Outcome.Done 4 (block_row 0 0 0 ∷ spoilt) (zeros 16) → ⊥
unfolding size_of rest_of
given_in_no_table told = omega (arith, told.1.1)

given_where_there_is_no_room : AllocTold Outcome.Done 9 spoilt (zeros 8) → ⊥
unfolding size_of rest_of
given_where_there_is_no_room told = grind arith

given_as_no_block : AllocTold Outcome.NoBlock 4 spoilt (zeros 16) → ⊥
unfolding size_of rest_of
given_as_no_block told = told

freed_where_no_block_begins : FreeTold Outcome.Done 1 (block_row 0 2 1 ∷ []) (zeros 4) → ⊥
unfolding size_of rest_of
freed_where_no_block_begins told = grind arith

freed_in_no_table : FreeTold Outcome.Done 0 spoilt (zeros 4) → ⊥
unfolding size_of rest_of
freed_in_no_table told = omega (arith, told.0.1)

no_block_in_no_table : FreeTold Outcome.NoBlock 1 spoilt (zeros 4) → ⊥
unfolding size_of rest_of
no_block_in_no_table told = omega (arith, told.0.1)

one_begins_at_0 : FreeTold Outcome.NoBlock 0 full (zeros 4) → ⊥
unfolding size_of rest_of
one_begins_at_0 told = grind arith

not_freed_in_a_table : FreeTold Outcome.NoTable 0 full (zeros 4) → ⊥
unfolding size_of rest_of
not_freed_in_a_table told = grind arith

freed_as_no_room : FreeTold Outcome.NoRoom 0 full (zeros 4) → ⊥
unfolding size_of rest_of
freed_as_no_room told = told

freed_as_no_row : FreeTold Outcome.NoRow 0 full (zeros 4) → ⊥
unfolding size_of rest_of
freed_as_no_row told = told

resized_where_no_block_begins : ReallocTold Outcome.Done 1 4 (block_row 0 2 1 ∷ []) (zeros 4) → ⊥
unfolding size_of rest_of
resized_where_no_block_begins told = told.1

resized_in_no_table : ReallocTold Outcome.Done 0 0 spoilt (zeros 4) → ⊥
unfolding size_of rest_of
resized_in_no_table told = omega (arith, told.0.1)

resized_where_there_is_no_room : ReallocTold Outcome.Done 0 5 full (zeros 4) → ⊥
unfolding size_of rest_of
resized_where_there_is_no_room told = grind arith

not_resized_where_there_is_room : ReallocTold Outcome.NoRoom 0 4 (block_row 0 8 1 ∷ []) (zeros 16) → ⊥
unfolding size_of rest_of
not_resized_where_there_is_room told = grind arith

not_resized_in_no_table : ReallocTold Outcome.NoRoom 0 5 spoilt (zeros 4) → ⊥
unfolding size_of rest_of
not_resized_in_no_table told = omega (arith, told.0.1)

no_room_for_no_block : ReallocTold Outcome.NoRoom 1 5 full (zeros 4) → ⊥
unfolding size_of rest_of
no_room_for_no_block told = told.1

no_block_to_resize_in_no_table : ReallocTold Outcome.NoBlock 1 5 spoilt (zeros 4) → ⊥
unfolding size_of rest_of
no_block_to_resize_in_no_table told = omega (arith, told.0.1)

one_to_resize_begins_at_0 : ReallocTold Outcome.NoBlock 0 5 full (zeros 4) → ⊥
unfolding size_of rest_of
one_to_resize_begins_at_0 told = grind arith

not_resized_in_a_table : ReallocTold Outcome.NoTable 0 5 full (zeros 4) → ⊥
unfolding size_of rest_of
not_resized_in_a_table told = grind arith

resized_as_no_row : ReallocTold Outcome.NoRow 0 5 full (zeros 4) → ⊥
unfolding size_of rest_of
resized_as_no_row told = told

figures_of_no_table : StatsTold Outcome.Done (block_row 0 0 0 ∷ []) (zeros 4) → ⊥
unfolding size_of rest_of
figures_of_no_table told = omega (arith, told.1)

no_figures_of_a_table : StatsTold Outcome.NoTable full (zeros 4) → ⊥
unfolding size_of rest_of
no_figures_of_a_table told = grind arith

figures_as_no_block : StatsTold Outcome.NoBlock full (zeros 4) → ⊥
unfolding size_of rest_of
figures_as_no_block told = told

figures_as_no_room : StatsTold Outcome.NoRoom full (zeros 4) → ⊥
unfolding size_of rest_of
figures_as_no_room told = told

figures_as_no_row : StatsTold Outcome.NoRow full (zeros 4) → ⊥
unfolding size_of rest_of
figures_as_no_row told = told

-- rows with blocks from 0 to 2 and from 4 to 7
abbrev two_rows : List Row
two_rows = block_row 0 2 1 ∷ block_row 4 3 3 ∷ []

between_them : IsFree 0 two_rows 10 2 2
unfolding size_of rest_of
between_them = grind arith

behind_them : IsFree 0 two_rows 10 7 3
unfolding size_of rest_of
behind_them = grind arith

one_byte_too_many : IsFree 0 two_rows 10 2 3 → ⊥
unfolding size_of rest_of
one_byte_too_many (inl first) = omega (arith, first.1)
one_byte_too_many (inr (inl second)) = omega (arith, second.1)
one_byte_too_many (inr (inr last)) = omega (arith, last.0)

past_the_end_of_all : IsFree 0 two_rows 10 7 4 → ⊥
unfolding size_of rest_of
past_the_end_of_all (inl first) = omega (arith, first.1)
past_the_end_of_all (inr (inl second)) = omega (arith, second.1)
past_the_end_of_all (inr (inr last)) = omega (arith, last.1)

reaches_into_the_first : IsFree 0 two_rows 10 1 2 → ⊥
unfolding size_of rest_of
reaches_into_the_first (inl first) = omega (arith, first.1)
reaches_into_the_first (inr (inl second)) = omega (arith, second.0)
reaches_into_the_first (inr (inr last)) = omega (arith, last.0)

put_between : with_row (block_row 2 1 1) two_rows ≡ block_row 0 2 1 ∷ block_row 2 1 1 ∷ block_row 4 3 3 ∷ []
unfolding size_of rest_of
put_between = refl

first_taken_out : without_row 0 two_rows ≡ block_row 4 3 3 ∷ []
unfolding size_of rest_of
first_taken_out = refl

next_behind_the_first : next_place 0 two_rows 10 ≡ 4
unfolding size_of rest_of
next_behind_the_first = refl

next_behind_the_last : next_place 1 two_rows 10 ≡ 10
unfolding size_of rest_of
next_behind_the_last = refl

second_begins_at_four : BeginsAt two_rows 4 2 (Some 1)
unfolding size_of rest_of
second_begins_at_four = (omega arith, refl)

one_begins_there : BeginsAt two_rows 4 2 None → ⊥
unfolding size_of rest_of
one_begins_there none = grind arith

the_other_one : BeginsAt two_rows 4 2 (Some 0) → ⊥
unfolding size_of rest_of
the_other_one begins = omega (arith, begins.1)

no_such_row : BeginsAt two_rows 0 2 (Some 2) → ⊥
unfolding size_of rest_of
no_such_row begins = omega (arith, begins.0)

second_is_not_below_three : BeginBelow two_rows 3 2 → ⊥
unfolding size_of rest_of
second_is_not_below_three below = grind arith

these_are_a_table : HasNoPlace Outcome.NoTable 4 two_rows 10 → ⊥
unfolding size_of rest_of
these_are_a_table none = none is_table

there_is_room : HasNoPlace Outcome.NoRoom 4 [] 16 → ⊥
there_is_room none = absurd (let nowhere : None ≡ place 4 (heap_of [] (zeros 16)) = none.1 (zeros 16) refl in cc)

no_place_and_done : HasNoPlace Outcome.Done 5 full 4 → ⊥
unfolding size_of rest_of
no_place_and_done none = none

no_place_for_no_block : HasNoPlace Outcome.NoBlock 5 full 4 → ⊥
unfolding size_of rest_of
no_place_for_no_block none = none

no_place_without_a_row : HasNoPlace Outcome.NoRow 5 full 4 → ⊥
unfolding size_of rest_of
no_place_without_a_row none = none

no_room_of_no_table : HasNoPlace Outcome.NoRoom 4 spoilt 0 → ⊥
unfolding size_of rest_of
no_room_of_no_table none = omega (arith, none.0.1)
