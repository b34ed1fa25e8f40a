-- For those that keep a pool, its lists and their arena together: the span stays in the arena, and what the pool and the
-- lists show depends only on the span's bytes.
use Rattle.memb_core.proofs.Words.{◌≡◌, ℕ, ◌+◌, ◌≤◌, ◌⊎◌, List, arith, Contents, PoolTable, ListHeads, ListName, pool_of, IsWithin, KeepsToSpan, link_of, list_of, AreLinked}
use Rattle.arena_core.specs.Code.Outside.{ChangesOnly}

pub IsWithin-kept : {old new : PoolTable} {before after : Contents} → KeepsToSpan old new before after → IsWithin old before.bytes
    → IsWithin new after.bytes
IsWithin-kept kept within = grind arith

module _ (pool : PoolTable) (at len : ℕ) (old new : List ℕ) (changes : ChangesOnly at len old new)
    (apart : (pool.span.at + pool.span.len ≤ at) ⊎ (at + len ≤ pool.span.at)) where
  link_same : link_of pool new ≡ link_of pool old
  unfolding link_of
  link_same = grind arith

  pub pool_of-elsewhere : pool_of pool new ≡ pool_of pool old
  unfolding pool_of
  pool_of-elsewhere = grind arith

  pub list_of-elsewhere : (name : ListName) (lists : ListHeads) → list_of name lists pool new ≡ list_of name lists pool old
  list_of-elsewhere name lists = grind (arith, link_same)

  pub AreLinked-elsewhere : (lists : ListHeads) → AreLinked lists pool old → AreLinked lists pool new
  AreLinked-elsewhere lists linked = grind (arith, link_same)
