-- Which chunk is the block of a name.
use Rattle.std.specs.Prelude.{◌≡◌, ℕ, Bool, false, List, Option, Some, None, ◌==◌}
use Rattle.heap_core.specs.declared.chunk.Chunk.{Chunk}
use Rattle.heap_core.specs.Code.FreeList.{Stands}

abbrev pub is_owner : ℕ → Option ℕ → Bool
is_owner name None = false
is_owner name (Some other) = other == name

abbrev pub owned_by : ℕ → Chunk → Bool
owned_by name chunk = is_owner name chunk.owner

-- it is one of these chunks, and the block of that name
pub record Owned (name : ℕ) (chunk : Chunk) (chunks : List Chunk) : Type 0 where
  pub stands : Stands chunk chunks
  pub owner : chunk.owner ≡ Some name
