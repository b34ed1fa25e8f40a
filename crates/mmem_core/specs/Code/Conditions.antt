-- What calls ask of sizes, and what they read of a block.
use Rattle.std.specs.Prelude.{◌≡◌, ℕ, ◌%◌, ◌≤◌, length, Option}
use Rattle.std.specs.Option.{option_map}
use Rattle.mote_types.specs.Kinds.{ProcessNumber, Handle}
use Rattle.mote_types.specs.Limits.{region_limit}
use Rattle.mmem_core.specs.ManagedStore.{ManagedStore, block_of}

-- the length of p's block, if it is live
abbrev pub length_of : ProcessNumber → Handle → ManagedStore → Option ℕ
length_of p handle store = option_map length (block_of p handle store)

-- the sizes that a managed region may have
abbrev pub IsManagedSize : ℕ → Type 0
IsManagedSize size = (4 ≤ size) × (size ≤ region_limit) × (size % 4 ≡ 0)
