-- The blocks of a pool share no byte of the arena.
use Rattle.memb_core.proofs.Words.{◌≡◌, ℕ, ◌+◌, List, [], slice_range, sym, ap, ◌∙◌, arith, Option, Some, None, IfSome, is_some, unwrap_or, PoolTable, block_of, place_of, pool_of, IsWithin, FillsSpan}
use Rattle.memb_core.specs.Code.Separation.{BlocksLieApart}
use Rattle.memb_core.proofs.Blocks.{live_is}
use Rattle.memb_core.proofs.Bytes.{blocks_apart, block_is, bytes_read, live_below}

module _ (pool : PoolTable) (fills : FillsSpan pool) (bytes : List ℕ) (within : IsWithin pool bytes) where
  read : (b : ℕ) (block : Option (List ℕ)) → block_of b (pool_of pool bytes) ≡ block
      → IfSome block (λ xs. xs ≡ slice_range bytes (pool.span.at + place_of pool b + 4) (pool.span.at + place_of pool b + 4 + pool.usable))
  read b None is = tt
  read b (Some xs) is =
      let live = ap is_some is in
      let used = sym (live_is pool bytes b) ∙ live in
      let there = ap (λ o. unwrap_or o []) (sym is ∙ block_is pool bytes b used) in
      there
      ∙ bytes_read pool fills bytes within b (live_below pool bytes b live)
      ∙ ap (λ k. slice_range bytes k (k + pool.usable)) (omega arith)

  pub lie_apart : BlocksLieApart pool bytes
  lie_apart = grind (arith, blocks_apart, read)
