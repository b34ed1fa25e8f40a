-- The heap with a new block, and without one.
use Rattle.std.proofs.Common.{◌≡◌, ℕ, ◌≤◌, ◌<◌, List, length, map, arith}
use Rattle.arena_core.specs.Code.Written.{written}
use Rattle.arena_core.proofs.Ranges.{range-written, length-written}
use Rattle.mote_types.specs.Bytes.{range_of}
use Rattle.heap_core.specs.HeapStore.{Block, HeapStore, placed, without_block}
use Rattle.modules_c.specs.declared.heapmem.row.Row.{Row}
use Rattle.modules_c.specs.Heapmem.Heaps.{block_told, heap_of, size_of, room_of, IsTable}
use Rattle.modules_c.specs.Code.HeapmemRows.{row_of, with_row, without_row, IsFree}
use Rattle.modules_c.proofs.HeapmemEdits.{told_with, told_without, free_inside, kept, table_with}

module _ (rows : List Row) where
  module _ (bytes : List ℕ) where
    pub gone_is : (capacity i : ℕ) → IsTable rows capacity → i < length rows
        → heap_of (without_row i rows) bytes ≡ without_block (row_of rows i).offset (heap_of rows bytes)
    gone_is capacity i lie below = grind (arith, told_without bytes rows capacity i lie below)

    module _ (row : Row) where
      module _ (ws : List ℕ) where
        -- bytes written to free memory, and a row for them
        pub put_is : length ws ≡ size_of row
            → IsTable rows (length bytes) → IsFree 0 rows (length bytes) row.offset (room_of row)
            → let block : Block = record { name = row.offset; at = row.offset; room = room_of row; bytes = ws } in
            let new : HeapStore = record { size = length bytes; header = 0; blocks = placed block (map (block_told bytes) rows) } in
            heap_of (with_row row rows) (written bytes row.offset ws) ≡ new
        put_is size lie free = let new = written bytes row.offset ws in
            let inside = free_inside rows (length bytes) row.offset (room_of row) lie free in
            let read : range_of row.offset (size_of row) new ≡ ws = grind (arith, range-written) in
            let stays = kept bytes row.offset ws (omega arith) rows (length bytes) (room_of row) lie free
            (omega arith) in
            let told = told_with new row rows in let long = length-written bytes row.offset ws in grind arith

        pub put_table : 1 ≤ room_of row
            → IsTable rows (length bytes) → IsFree 0 rows (length bytes) row.offset (room_of row)
            → IsTable (with_row row rows) (length (written bytes row.offset ws))
        put_table some lie free = grind (arith, table_with rows (length bytes) row some lie free, length-written bytes row.offset ws)
