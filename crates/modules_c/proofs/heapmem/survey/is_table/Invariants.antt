use Rattle.std.proofs.Common.{◌↔◌, drop}
use Rattle.modules_c.specs.Heapmem.Heaps.{LieFrom, IsTable}
use Rattle.modules_c.proofs.heapmem.survey.is_table.Given as goal

abbrev pub invariant-loop-row : goal.invariant-loop-row
invariant-loop-row l = LieFrom l.from (drop l.row-index l.rows) l.capacity ↔ IsTable l.rows l.capacity
