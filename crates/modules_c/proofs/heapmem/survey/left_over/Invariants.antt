use Rattle.std.proofs.Common.{drop}
use Rattle.modules_c.proofs.HeapmemSums.{IsCounted}
use Rattle.modules_c.proofs.heapmem.survey.left_over.Given as goal

abbrev pub invariant-loop-row : goal.invariant-loop-row
invariant-loop-row l = IsCounted l.rows l.capacity l.free l.end (drop l.row-index l.rows)
