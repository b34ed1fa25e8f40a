-- The sizes of a pool.
use Rattle.std.specs.Prelude.{◌≡◌, ◌+◌, ◌*◌, ◌≤◌, length}
use Rattle.memb_core.specs.Code.PoolTable.{PoolTable}

-- the blocks take the whole span, each 4 bytes more than its usable ones, and there are at most 16
pub record FillsSpan (pool : PoolTable) : Type 0 where
  pub whole : pool.span.len ≡ length pool.used * (pool.usable + 4)
  pub few : length pool.used ≤ 16
