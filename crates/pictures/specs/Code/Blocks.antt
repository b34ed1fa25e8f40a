-- The lists that are stored beside their chains.
use Rattle.std.specs.Prelude.{◌≡◌, ℕ, ◌<◌, List, [], length, slice_index_or}
use Rattle.pictures.specs.declared.facts.chains.Chain.{Chain}
use Rattle.pictures.specs.Chains.{blocks_after}

-- each list has the blocks that the chains leave it
pub record HaveBlocks (lists : List (List ℕ)) (chains : List Chain) : Type 0 where
  pub size : length lists ≡ 8
  pub blocks : (list : ℕ) → list < 8 → slice_index_or lists list [] ≡ blocks_after list [] chains
