-- Examples: tables and what they stand for, malformed tables, results.
use Rattle.std.proofs.Common.{◌≡◌, ℕ, zero, suc, inl, inr, List, [], ◌∷◌, true, false, refl, ap, arith}
use Rattle.std.specs.Prelude.{Some, None, map, ◌<◌, ◌≤◌}
use Rattle.mmem_core.specs.ManagedStore.{ManagedStore}
use Rattle.mmem_core.specs.Code.Laid.{at_of}
use Rattle.modules_c.specs.declared.mmem.block.Block.{Block}
use Rattle.modules_c.specs.Mmem.Stored.{place_told, stored, part_of, IsTable, LieNoHigher, KeepOrder, process_of, handle_of, unused_store}
use Rattle.modules_c.specs.Mmem.Given.{GivesBlock}
use Rattle.modules_c.specs.Mmem.Answers.{Answer, number_of_answer, is_live, answer_to}
use Rattle.modules_c.specs.Code.MmemRows.{EndsBefore, IsClear, AreSound, IsNext}
use Rattle.modules_c.proofs.MmemRows.{table_from}

abbrev block_row : ℕ → ℕ → Block
block_row offset size = record { offset = offset; size = size }

-- handle 0: 3 bytes from 4 on; handle 1: none; handle 2: two from 0 on
abbrev table : List Block
table = block_row 4 3 ∷ block_row 9 0 ∷ block_row 0 2 ∷ []

abbrev store : ManagedStore
store = stored table (1 ∷ 2 ∷ 3 ∷ 4 ∷ 5 ∷ 6 ∷ 7 ∷ 8 ∷ 9 ∷ 10 ∷ [])

is_store : store ≡ record { capacity = 10; quota = None; blocks = Some (5 ∷ 6 ∷ 7 ∷ []) ∷ None ∷ Some (1 ∷ 2 ∷ []) ∷ [] }
is_store = refl

a_place_without_bytes : place_told (block_row 9 0) ≡ None
a_place_without_bytes = refl

three_bytes_take_four : (part_of (record { at = 4; len = 3 })).len ≡ 4
three_bytes_take_four = refl

no_blocks : stored (block_row 0 0 ∷ block_row 3 0 ∷ []) (7 ∷ 7 ∷ []) ≡ unused_store 2 2
no_blocks = refl

-- sixteen handles to a process, the first ones to process 3
handle_twenty : process_of 20 ≡ 4
handle_twenty = refl

fourth_of_them : handle_of 20 ≡ 4
fourth_of_them = refl

clear_first : IsClear table 0 3
clear_first zero l ne = absurd (ne refl)
clear_first (suc zero) l ne = λ one other le. absurd (omega (arith, other))
clear_first (suc (suc zero)) l ne = λ one other le. absurd (omega (arith, le))
clear_first (suc (suc (suc j))) l ne = absurd (omega (arith, l))

clear_last : IsClear table 2 3
clear_last zero l ne = λ one other le. omega arith
clear_last (suc zero) l ne = λ one other le. absurd (omega (arith, other))
clear_last (suc (suc zero)) l ne = absurd (ne refl)
clear_last (suc (suc (suc j))) l ne = absurd (omega (arith, l))

sound : AreSound table 8 3
sound zero l = (λ some. omega arith, clear_first)
sound (suc zero) l = (λ some. absurd (omega (arith, some)), λ j l ne one other le. absurd (omega (arith, one)))
sound (suc (suc zero)) l = (λ some. omega arith, clear_last)
sound (suc (suc (suc i))) l = absurd (omega (arith, l))

is_table : IsTable table 8
is_table = table_from table 8 sound

-- the last block ends after the seventh byte
past_the_end : IsTable table 7 → ⊥
past_the_end sound = omega (arith, sound.inside 0 (record { at = 4; len = 3 }) refl)

-- 5 bytes from 0 on take 8
sharing_bytes : IsTable (block_row 0 5 ∷ block_row 6 2 ∷ []) 8 → ⊥
sharing_bytes sound = elim
    (sound.apart 0 1 (record { at = 0; len = 5 }) (record { at = 6; len = 2 }) (λ e. absurd (omega (arith, e))) refl refl) [
      | inl before ↦ omega (arith, before)
      | inr behind ↦ omega (arith, behind)
    ]

-- a block with 3 bytes from 0 on overlaps one at 2, not one at 4
reaches_into : EndsBefore (block_row 0 3) (block_row 2 1) → ⊥
reaches_into ends = grind arith

ends_there : EndsBefore (block_row 0 3) (block_row 4 1)
ends_there one other le = omega arith

not_clear : IsClear (block_row 0 3 ∷ block_row 2 1 ∷ []) 0 2 → ⊥
not_clear clear = grind arith

not_sound : AreSound (block_row 0 3 ∷ block_row 2 1 ∷ []) 8 2 → ⊥
not_sound sound = grind arith

outside_is_not_sound : AreSound (block_row 4 5 ∷ []) 8 1 → ⊥
outside_is_not_sound sound = grind arith

-- from 0 on, the block at 0 is next; from 5 on there is none
the_higher_one_is_not_next : IsNext table 0 3 (Some 0) → ⊥
the_higher_one_is_not_next next = grind arith

an_unused_row_is_not_next : IsNext table 0 3 (Some 1) → ⊥
an_unused_row_is_not_next next = omega (arith, next.1)

one_that_begins_below_is_not_next : IsNext table 5 3 (Some 0) → ⊥
one_that_begins_below_is_not_next next = omega (arith, next.2)

one_of_the_others_is_not_next : IsNext table 0 2 (Some 2) → ⊥
one_of_the_others_is_not_next next = omega (arith, next.0)

none_is_left : IsNext table 0 3 None → ⊥
none_is_left next = grind arith

one_lower : LieNoHigher (block_row 4 3 ∷ []) (block_row 0 3 ∷ [])
one_lower zero old new was is = omega (arith, ap at_of was, ap at_of is)
one_lower (suc i) old new was is = absurd (let none : None ≡ Some old = was in cc)

one_higher : LieNoHigher (block_row 0 3 ∷ []) (block_row 4 3 ∷ []) → ⊥
one_higher down = omega (arith, down 0 (record { at = 0; len = 3 }) (record { at = 4; len = 3 }) refl refl)

-- two blocks that swapped positions
changed_places : KeepOrder (block_row 4 3 ∷ block_row 8 3 ∷ []) (block_row 4 3 ∷ block_row 0 3 ∷ []) → ⊥
changed_places keep = omega (
  arith,
  keep 0 1 (record { at = 4; len = 3 }) (record { at = 8; len = 3 }) (record { at = 4; len = 3 })
      (record { at = 0; len = 3 }) refl refl refl refl (omega arith),
)

-- A block of 4 bytes is added to two blocks of 4 in 16 bytes, the second at the end: both slide down, and the new one is after
-- them. If the first stays, the hole takes 4 bytes.
abbrev rows : ℕ → ℕ → ℕ → List Block
rows first second third = block_row first 4 ∷ block_row second 4 ∷ block_row third 4 ∷ []

abbrev sixteen : List ℕ
sixteen = 0 ∷ 0 ∷ 0 ∷ 0 ∷ 0 ∷ 0 ∷ 0 ∷ 0 ∷ 0 ∷ 0 ∷ 0 ∷ 0 ∷ 0 ∷ 0 ∷ 0 ∷ 0 ∷ []

one_stays : GivesBlock (block_row 4 4 ∷ block_row 12 4 ∷ block_row 0 0 ∷ []) (rows 4 8 12) sixteen sixteen 2 4 → ⊥
one_stays given = let together : 16 < 20 → 20 ≤ 16 = given.together in omega (arith, together (omega arith))

a_live_handle : is_live 2 store ≡ true
a_live_handle = refl

an_unused_handle : is_live 1 store ≡ false
an_unused_handle = refl

no_handle_is_not_live : is_live 3 store ≡ false
no_handle_is_not_live = refl

-- 10 bytes, of which blocks take 4 and 4
too_many : answer_to 1 3 store ≡ Answer.NoRoom
too_many = refl

no_bytes : answer_to 1 0 store ≡ Answer.NoBytes
no_bytes = refl

in_use : answer_to 0 0 store ≡ Answer.InUse
in_use = refl

no_such_handle : answer_to 3 0 store ≡ Answer.NoHandle
no_such_handle = refl

some_room : answer_to 1 4 (stored table (1 ∷ 2 ∷ 3 ∷ 4 ∷ 5 ∷ 6 ∷ 7 ∷ 8 ∷ 9 ∷ 10 ∷ 11 ∷ 12 ∷ [])) ≡ Answer.Allocated
some_room = refl

numbers : map number_of_answer (Answer.Allocated ∷ Answer.NoTable ∷ Answer.NoHandle ∷ Answer.InUse ∷ Answer.NoBytes ∷ Answer.NoRoom ∷ [])
    ≡ 0 ∷ 1 ∷ 2 ∷ 3 ∷ 4 ∷ 5 ∷ []
numbers = refl
