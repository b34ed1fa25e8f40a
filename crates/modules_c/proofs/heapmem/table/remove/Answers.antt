use Rattle.std.proofs.Common.{ap, ◌∙◌}
use Rattle.modules_c.specs.Heapmem.Heaps.{front}
use Rattle.modules_c.proofs.HeapmemEdits.{removed}
use Rattle.modules_c.proofs.heapmem.table.remove.Goals as goal

pub returns-clause-rows : goal.returns-clause-rows
returns-clause-rows c = ap front c.copy_within.ensures.after ∙ removed c.args.rows.now c.args.number c.requires
