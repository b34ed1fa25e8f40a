use Rattle.std.proofs.Common.{◌≡◌, ◌-◌, sum_by, take}
use Rattle.mote_types.specs.Rounding.{up4}
use Rattle.modules_c.specs.declared.mmem.block.Block.{Block}
use Rattle.modules_c.proofs.mmem.table.left_over.Given as goal

abbrev pub invariant-loop-block : goal.invariant-loop-block
invariant-loop-block l = l.left ≡ l.capacity - sum_by (λ (row : Block). up4 row.size) (take l.block-index l.blocks)
