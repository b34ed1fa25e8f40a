-- Where the blocks of a pool are in the arena.
use Rattle.std.specs.Prelude.{◌≡◌, ◌≢◌, ℕ, ◌+◌, ◌<◌, List, length, IfSome}
use Rattle.mote_types.specs.Bytes.{range_of}
use Rattle.arena_core.specs.Code.Extents.{Extent, LiesIn, AreApart}
use Rattle.memb_core.specs.Code.PoolTable.{PoolTable}
use Rattle.memb_core.specs.BlockPool.{block_of}
use Rattle.memb_core.specs.Code.PoolBytes.{place_of, pool_of}

-- the part of the arena that block b takes: its link, and after it the usable bytes
abbrev pub extent_of : PoolTable → ℕ → Extent
extent_of pool b = record { at = pool.span.at + place_of pool b; len = 4 + pool.usable }

-- Each block takes a part of the pool's span, the parts of two blocks share no byte, and the bytes of a used block are read
-- from its part, after the link.
pub record BlocksLieApart (pool : PoolTable) (bytes : List ℕ) : Type 0 where
  pub inside : (b : ℕ) → b < length pool.used → LiesIn pool.span (extent_of pool b)
  pub apart : (b c : ℕ) → b ≢ c → AreApart (extent_of pool b) (extent_of pool c)
  pub read : (b : ℕ) → IfSome (block_of b (pool_of pool bytes))
      (λ block. block ≡ range_of (pool.span.at + place_of pool b + 4) pool.usable bytes)
