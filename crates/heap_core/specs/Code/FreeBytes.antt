-- Where free bytes begin and end beside chunks, and what a chunk that is put into them may leave.
use Rattle.std.specs.Prelude.{◌≡◌, ℕ, ◌+◌, ◌-◌, ◌%◌, ◌≤◌, ◌⊎◌, List, [], ◌∷◌, Option, Some, None, if◌then◌else◌, ◌==◌}
use Rattle.heap_core.specs.declared.chunk.Chunk.{Chunk}
use Rattle.heap_core.specs.Code.Chunks.{shortest}
use Rattle.heap_core.specs.Code.FreeList.{Stands}

-- what is between two positions is as long as a whole gap
abbrev pub LeavesGap : ℕ → ℕ → ℕ → Type 0
LeavesGap header from to = (from + shortest header ≤ to) × ((to - from) % 4 ≡ 0)

-- the room of a whole chunk
abbrev pub IsWholeRoom : ℕ → ℕ → Type 0
IsWholeRoom header room = (shortest header ≤ header + room) × (room % 4 ≡ 0)

-- one of these chunks is a gap there, which has these bytes, or leaves a whole gap after them
pub record GapAt (header place len : ℕ) (chunks : List Chunk) : Type 0 where
  pub gap : Chunk
  pub stands : Stands gap chunks
  pub free : gap.owner ≡ None
  pub at : gap.at ≡ place
  pub rest : (len ≡ gap.len) ⊎ LeavesGap header len gap.len

-- where the free bytes begin that end at a position, below which that gap is the highest one
abbrev pub free_from : ℕ → Option Chunk → ℕ
free_from at None = at
free_from at (Some gap) = if gap.at + gap.len == at then gap.at else at

abbrev pub gap_of : Chunk → Option ℕ → ℕ
gap_of chunk None = chunk.len
gap_of chunk (Some name) = 0

-- the length of the gap before these chunks, 0 where there is none
abbrev pub front_gap : List Chunk → ℕ
front_gap [] = 0
front_gap (chunk ∷ chunks) = gap_of chunk chunk.owner
