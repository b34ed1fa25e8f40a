-- How the chains of the lists follow from one another.
use Rattle.std.specs.Prelude.{◌≡◌, ℕ, ◌<◌, ◌==◌, List, [], ◌∷◌, ◌++◌, if◌then◌else◌}
use Rattle.pictures.specs.declared.facts.chains.Chain.{Chain}
use Rattle.pictures.specs.declared.facts.chains.ListChange.{ListChange}
use Rattle.pictures.specs.Lists.{changed}

-- the blocks of a list after these chains: those of its last one, where it has one, otherwise those that it had before
abbrev pub blocks_after : ℕ → List ℕ → List Chain → List ℕ
blocks_after list before [] = before
blocks_after list before (chain ∷ chains) =
    blocks_after list (if chain.list == list then chain.blocks.items else before) chains

-- each chain has the blocks of its list after one change, where it had none at first
pub data AreChains : List Chain → Type 0 where
  none : AreChains []
  more : {chains : List Chain} → AreChains chains → (chain : Chain) (change : ListChange) → chain.list < 8
      → chain.blocks.items ≡ changed change (blocks_after chain.list [] chains)
      → AreChains (chains ++ chain ∷ [])
