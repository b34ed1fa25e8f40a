-- What the calls return: numbers for outcomes, as in toarmuts/calls.h, and when each is returned.
use Rattle.std.specs.Prelude.{◌≡◌, ℕ, ◌≤◌, List, length, IsSome, IsNone, IsSomeAnd, Option, Some, None, if◌then◌else◌, ◌==◌}
use Rattle.heap_core.specs.HeapStore.{find_block, place, place_of, new_place}
use Rattle.modules_c.specs.declared.heapmem.row.Row.{Row}
use Rattle.modules_c.specs.declared.heapmem.outcome.Outcome.{Outcome}
use Rattle.modules_c.specs.Heapmem.Heaps.{heap_of, row_limit, IsTable, front}

abbrev pub outcome_numbered : ℕ → Option Outcome
outcome_numbered number =
    if number == 0 then Some Outcome.Done
    else (if number == 1 then Some Outcome.NoTable
    else (if number == 2 then Some Outcome.NoBlock
    else (if number == 3 then Some Outcome.NoRoom
    else (if number == 4 then Some Outcome.NoRow else None))))

-- a call for a new block of n bytes
abbrev pub AllocTold : Outcome → ℕ → List Row → List ℕ → Type 0
AllocTold Outcome.NoRow n rows bytes = length rows ≡ 0
AllocTold Outcome.NoTable n rows bytes = (1 ≤ length rows) × (IsTable (front rows) (length bytes) → row_limit ≤ length bytes)
AllocTold Outcome.NoRoom n rows bytes =
    (1 ≤ length rows) × IsTable (front rows) (length bytes) × IsNone (place n (heap_of (front rows) bytes))
AllocTold Outcome.Done n rows bytes =
    (1 ≤ length rows) × IsTable (front rows) (length bytes) × IsSome (place n (heap_of (front rows) bytes))
AllocTold Outcome.NoBlock n rows bytes = ⊥

-- a call that frees the block that begins at a position
abbrev pub FreeTold : Outcome → ℕ → List Row → List ℕ → Type 0
FreeTold Outcome.NoTable at rows bytes = ¬ IsTable rows (length bytes)
FreeTold Outcome.NoBlock at rows bytes = IsTable rows (length bytes) × IsNone (find_block at (heap_of rows bytes))
FreeTold Outcome.Done at rows bytes = IsTable rows (length bytes) × IsSome (find_block at (heap_of rows bytes))
FreeTold Outcome.NoRoom at rows bytes = ⊥
FreeTold Outcome.NoRow at rows bytes = ⊥

-- a call that resizes the block that begins at a position to n bytes
abbrev pub ReallocTold : Outcome → ℕ → ℕ → List Row → List ℕ → Type 0
ReallocTold Outcome.NoTable at n rows bytes = IsTable rows (length bytes) → row_limit ≤ length bytes
ReallocTold Outcome.NoBlock at n rows bytes = IsTable rows (length bytes) × IsNone (find_block at (heap_of rows bytes))
ReallocTold Outcome.NoRoom at n rows bytes = IsTable rows (length bytes)
    × IsSomeAnd (find_block at (heap_of rows bytes)) (λ block. IsNone (new_place (place_of block) n (heap_of rows bytes)))
ReallocTold Outcome.Done at n rows bytes = IsTable rows (length bytes)
    × IsSomeAnd (find_block at (heap_of rows bytes)) (λ block. IsSome (new_place (place_of block) n (heap_of rows bytes)))
ReallocTold Outcome.NoRow at n rows bytes = ⊥

-- a call for the figures
abbrev pub StatsTold : Outcome → List Row → List ℕ → Type 0
StatsTold Outcome.NoTable rows bytes = ¬ IsTable rows (length bytes)
StatsTold Outcome.Done rows bytes = IsTable rows (length bytes)
StatsTold Outcome.NoBlock rows bytes = ⊥
StatsTold Outcome.NoRoom rows bytes = ⊥
StatsTold Outcome.NoRow rows bytes = ⊥
