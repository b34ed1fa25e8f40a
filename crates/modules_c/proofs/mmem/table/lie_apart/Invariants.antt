use Rattle.modules_c.specs.Code.MmemRows.{AreSound}
use Rattle.modules_c.proofs.mmem.table.lie_apart.Given as goal

abbrev pub invariant-loop-number : goal.invariant-loop-number
invariant-loop-number l = AreSound l.blocks l.capacity l.number
