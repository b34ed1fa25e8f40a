use Rattle.modules_c.specs.Code.MmemRows.{IsClear}
use Rattle.modules_c.proofs.mmem.table.is_clear.Given as goal

abbrev pub invariant-loop-other : goal.invariant-loop-other
invariant-loop-other l = IsClear l.blocks l.number l.other
