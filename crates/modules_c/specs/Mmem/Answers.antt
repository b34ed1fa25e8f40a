-- What the calls return, and its numbers, as in toarmuts/managed.h.
use Rattle.std.specs.Prelude.{ℕ, Bool, ◌==◌, length, nat_le, is_some, if◌then◌else◌}
use Rattle.mmem_core.specs.ManagedStore.{ManagedStore, block_of, fits}
use Rattle.modules_c.specs.Mmem.Stored.{process_of, handle_of}

pub data Answer : Type 0 where
  Allocated : Answer
  -- the rows are no table
  NoTable : Answer
  NoHandle : Answer
  InUse : Answer
  NoBytes : Answer
  NoRoom : Answer

abbrev pub number_of_answer : Answer → ℕ
number_of_answer Answer.Allocated = 0
number_of_answer Answer.NoTable = 1
number_of_answer Answer.NoHandle = 2
number_of_answer Answer.InUse = 3
number_of_answer Answer.NoBytes = 4
number_of_answer Answer.NoRoom = 5

-- whether a handle has a block
abbrev pub is_live : ℕ → ManagedStore → Bool
is_live handle store = is_some (block_of (process_of handle) (handle_of handle) store)

-- what a call for n bytes returns
abbrev pub answer_to : ℕ → ℕ → ManagedStore → Answer
answer_to handle size store =
    if nat_le (length store.blocks) handle then Answer.NoHandle
    else (if is_live handle store then Answer.InUse
    else (if size == 0 then Answer.NoBytes
    else (if fits (process_of handle) size store then Answer.Allocated else Answer.NoRoom)))
