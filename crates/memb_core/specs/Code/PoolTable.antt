-- The state of a pool and its lists besides the bytes, which are in the arena.
use Rattle.std.specs.Prelude.{ℕ, Bool, List, Option}
use Rattle.arena_core.specs.declared.span.Span.{Span}

pub record PoolTable : Type 0 where
  -- the part of the arena that the blocks are in
  pub span : Span
  -- the number of usable bytes of a block
  pub usable : ℕ
  -- of each block, by its number, whether it is used
  pub used : List Bool

-- the heads of the two lists
pub record ListHeads : Type 0 where
  pub first : Option ℕ
  pub second : Option ℕ
