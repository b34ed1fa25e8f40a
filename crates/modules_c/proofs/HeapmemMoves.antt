-- Where a resized block is, by what the code found.
use Rattle.std.proofs.Common.{arith, ◌≡◌, ℕ, ◌<◌, List, length, Some}
use Rattle.heap_core.specs.HeapStore.{find_block}
use Rattle.modules_c.specs.declared.heapmem.row.Row.{Row}
use Rattle.modules_c.specs.Heapmem.Heaps.{block_told, heap_of, IsTable}
use Rattle.modules_c.specs.Code.HeapmemRows.{row_of}
use Rattle.modules_c.proofs.HeapmemEdits.{block_found}

pub found_at : (rows : List Row) (bytes : List ℕ) (i at : ℕ) → IsTable rows (length bytes) → i < length rows → (row_of rows i).offset ≡ at
    → find_block at (heap_of rows bytes) ≡ Some (block_told bytes (row_of rows i))
found_at rows bytes i at lie below there = grind (arith, block_found bytes rows (length bytes) i lie below)
