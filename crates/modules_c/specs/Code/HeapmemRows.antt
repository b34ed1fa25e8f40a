-- What the code computes of rows.
use Rattle.std.specs.Prelude.{◌≡◌, ◌≢◌, ℕ, zero, suc, ◌+◌, ◌≤◌, ◌<◌, ◌⊎◌, List, [], ◌∷◌, length, slice_index_or, nat_lt, if◌then◌else◌, Option, Some, None}
use Rattle.heap_core.specs.declared.chunk.Gap.{Gap}
use Rattle.heap_core.specs.declared.chunk.Place.{Place}
use Rattle.heap_core.specs.HeapStore.{place}
use Rattle.modules_c.specs.declared.heapmem.outcome.Outcome.{Outcome}
use Rattle.modules_c.specs.declared.heapmem.row.Row.{Row}
use Rattle.modules_c.specs.declared.heapmem.row.Hole.{Hole}
use Rattle.modules_c.specs.declared.heapmem.row.Spot.{Spot}
use Rattle.modules_c.specs.Heapmem.Heaps.{heap_of, room_of, IsTable}

abbrev pub gap_of : Hole → Gap
gap_of hole = record { at = hole.at; len = hole.len }

abbrev pub place_told : Spot → Place
place_told spot = record { at = spot.at; room = spot.room }

-- the rows with one more, in the order of their positions
abbrev pub with_row : Row → List Row → List Row
with_row row [] = row ∷ []
with_row row (other ∷ rows) = if nat_lt row.offset other.offset then row ∷ (other ∷ rows) else other ∷ with_row row rows

-- n bytes are between these blocks, from a position on
abbrev pub IsFree : ℕ → List Row → ℕ → ℕ → ℕ → Type 0
IsFree from [] capacity at len = (from ≤ at) × (at + len ≤ capacity)
IsFree from (row ∷ rows) capacity at len = ((from ≤ at) × (at + len ≤ row.offset)) ⊎ IsFree (row.offset + room_of row) rows capacity at len

abbrev pub row_of : List Row → ℕ → Row
row_of rows i = slice_index_or rows i (record { offset = 0; extent = 0 })

-- the rows without that of this number
abbrev pub without_row : ℕ → List Row → List Row
without_row i [] = []
without_row zero (row ∷ rows) = rows
without_row (suc i) (row ∷ rows) = row ∷ without_row i rows

-- of the first n rows this one begins there, or none does
abbrev pub BeginsAt : List Row → ℕ → ℕ → Option ℕ → Type 0
BeginsAt rows at n None = (j : ℕ) → j < n → (row_of rows j).offset ≢ at
BeginsAt rows at n (Some i) = (i < length rows) × ((row_of rows i).offset ≡ at)

-- why a block of n bytes fits nowhere
abbrev pub HasNoPlace : Outcome → ℕ → List Row → ℕ → Type 0
HasNoPlace Outcome.NoTable n rows capacity = ¬ IsTable rows capacity
HasNoPlace Outcome.NoRoom n rows capacity =
    IsTable rows capacity × ((bytes : List ℕ) → length bytes ≡ capacity → None ≡ place n (heap_of rows bytes))
HasNoPlace Outcome.Done n rows capacity = ⊥
HasNoPlace Outcome.NoBlock n rows capacity = ⊥
HasNoPlace Outcome.NoRow n rows capacity = ⊥

-- the first n rows begin at a position or below
abbrev pub BeginBelow : List Row → ℕ → ℕ → Type 0
BeginBelow rows at n = (j : ℕ) → j < n → (row_of rows j).offset ≤ at

-- where the block after that of this number begins; the end of the region, where it is the last one
abbrev pub next_place : ℕ → List Row → ℕ → ℕ
next_place i rows capacity = if nat_lt (i + 1) (length rows) then (row_of rows (i + 1)).offset else capacity
