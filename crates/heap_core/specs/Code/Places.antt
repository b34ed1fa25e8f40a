-- The table of where the block of each name begins.
use Rattle.std.specs.Prelude.{◌≡◌, ℕ, ◌<◌, List, length, Option, None, get_or}
use Rattle.std.specs.Option.{option_map}
use Rattle.heap_core.specs.HeapStore.{Block, HeapStore, find_block}

-- where the block of a name begins, if it is live
abbrev pub place_found : ℕ → HeapStore → Option ℕ
place_found name heap = option_map (λ (block : Block). block.at) (find_block name heap)

-- the table has an entry for each name: the position of its block
pub record ArePlaced (places : List (Option ℕ)) (heap : HeapStore) : Type 0 where
  pub entries : length places ≡ 272
  pub told : (name : ℕ) → name < 272 → get_or places name None ≡ place_found name heap
