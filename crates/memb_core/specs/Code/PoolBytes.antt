-- Where the blocks of a pool are, and what they stand for.
use Rattle.std.specs.Prelude.{◌≡◌, ℕ, ◌+◌, ◌*◌, ◌≤◌, Bool, List, [], ◌∷◌, length, slice_range, Option, Some, None, is_some, if◌then◌else◌}
use Rattle.arena_core.specs.Code.Contents.{Contents}
use Rattle.arena_core.specs.Code.Outside.{ChangesOnly}
use Rattle.memb_core.specs.Code.PoolTable.{PoolTable}
use Rattle.memb_core.specs.BlockPool.{BlockPool, block_of}

-- where block b begins in the pool's span. Its link takes 4 bytes, and its usable bytes follow
abbrev pub place_of : PoolTable → ℕ → ℕ
place_of pool b = b * (pool.usable + 4)

-- the bytes of the pool's span
abbrev pub region_of : PoolTable → List ℕ → List ℕ
region_of pool bytes = slice_range bytes pool.span.at (pool.span.at + pool.span.len)

-- the usable bytes of block b, in the span's bytes
abbrev pub usable_bytes : PoolTable → List ℕ → ℕ → List ℕ
usable_bytes pool region b = slice_range region (place_of pool b + 4) (place_of pool b + 4 + pool.usable)

-- the blocks from number b on, where each has a flag that says whether it is used
abbrev pub blocks_from : (ℕ → List ℕ) → ℕ → List Bool → List (Option (List ℕ))
blocks_from bytes_at b [] = []
blocks_from bytes_at b (is_used ∷ later) = (if is_used then Some (bytes_at b) else None) ∷ blocks_from bytes_at (b + 1) later

-- what the numbers stand for. Of the arena's bytes it reads only the span's
unfoldable pub pool_of : PoolTable → List ℕ → BlockPool
pool_of pool bytes =
    record { usable = pool.usable; blocks = blocks_from (usable_bytes pool (region_of pool bytes)) 0 pool.used }

-- whether block b is used
abbrev pub is_live : ℕ → BlockPool → Bool
is_live b pool = is_some (block_of b pool)

-- the pool's span is in these bytes
abbrev pub IsWithin : PoolTable → List ℕ → Type 0
IsWithin pool bytes = pool.span.at + pool.span.len ≤ length bytes

-- the pool keeps its span, and of the arena only bytes of that span changed
pub record KeepsToSpan (old new : PoolTable) (old_arena new_arena : Contents) : Type 0 where
  pub span : new.span ≡ old.span
  pub carved : new_arena.carved ≡ old_arena.carved
  pub bytes : ChangesOnly old.span.at old.span.len old_arena.bytes new_arena.bytes
