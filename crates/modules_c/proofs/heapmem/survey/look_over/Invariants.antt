use Rattle.std.proofs.Common.{◌↔◌, drop}
use Rattle.modules_c.specs.Heapmem.Heaps.{LieFrom, IsTable}
use Rattle.modules_c.proofs.HeapmemWalks.{IsMidway}
use Rattle.modules_c.proofs.heapmem.survey.look_over.Given as goal

abbrev pub invariant-loop-row : goal.invariant-loop-row
invariant-loop-row l =
    (LieFrom l.end (drop l.row-index l.rows) l.capacity ↔ IsTable l.rows l.capacity)
    × (IsTable l.rows l.capacity → IsMidway l.rows l.capacity l.need l.best l.end (drop l.row-index l.rows))
