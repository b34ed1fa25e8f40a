use Rattle.modules_c.specs.Code.MmemRows.{IsNext}
use Rattle.modules_c.proofs.mmem.slide.next_from.Given as goal

abbrev pub invariant-loop-number : goal.invariant-loop-number
invariant-loop-number l = IsNext l.blocks l.low l.number l.next
