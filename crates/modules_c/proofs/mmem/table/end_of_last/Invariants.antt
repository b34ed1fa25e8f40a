use Rattle.std.proofs.Common.{ℕ, ◌+◌, ◌<◌, ◌≤◌}
use Rattle.mote_types.specs.Rounding.{up4}
use Rattle.mmem_core.specs.Code.Places.{last_end}
use Rattle.modules_c.specs.Mmem.Stored.{places_told}
use Rattle.modules_c.specs.Code.MmemRows.{row_of}
use Rattle.modules_c.proofs.mmem.table.end_of_last.Given as goal

abbrev pub invariant-loop-block : goal.invariant-loop-block
invariant-loop-block l =
    (l.end ≤ last_end (places_told l.blocks))
    × ((j : ℕ) → j < l.block-index → 0 < (row_of l.blocks j).size → (row_of l.blocks j).offset + up4 (row_of l.blocks j).size ≤ l.end)
