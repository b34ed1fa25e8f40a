-- Blocks in the order of their positions.
use Rattle.std.specs.Prelude.{ℕ, ◌≤◌, List, [], ◌∷◌, length}
use Rattle.heap_core.specs.HeapStore.{Block, end_of, HeapStore}

-- each of these blocks begins where the one before ends, or after that, and its bytes fit its room; the last ends within size
abbrev pub LieInOrder : ℕ → ℕ → List Block → ℕ → Type 0
LieInOrder header from [] size = from ≤ size
LieInOrder header from (block ∷ blocks) size =
    (from ≤ block.at) × (length block.bytes ≤ block.room) × LieInOrder header (end_of header block) blocks size

-- the blocks are in the region, and no two of them share a byte
abbrev pub LieApart : HeapStore → Type 0
LieApart heap = LieInOrder heap.header 0 heap.blocks heap.size
