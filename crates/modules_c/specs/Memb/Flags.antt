-- A pool whose owner keeps a flag of each block, and its bytes.
use Rattle.std.specs.Prelude.{ℕ, Bool, List}
use Rattle.memb_core.specs.BlockPool.{BlockPool}
use Rattle.memb_core.specs.Code.PoolBytes.{blocks_from}

-- the pool of these flags, where a block has n bytes, and block b these
abbrev pub flagged : ℕ → (ℕ → List ℕ) → List Bool → BlockPool
flagged usable bytes_at used = record { usable = usable; blocks = blocks_from bytes_at 0 used }
