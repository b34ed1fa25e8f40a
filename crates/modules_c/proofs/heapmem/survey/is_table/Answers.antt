use Rattle.std.proofs.Common.{arith}
use Rattle.std.proofs.lemmas.List.{drop_more}
use Rattle.modules_c.proofs.heapmem.survey.is_table.Goals as goal

pub returns-in_default : goal.returns-in_default
returns-in_default c = grind (arith, drop_more)

pub loop-row-preserved : goal.loop-row-preserved
loop-row-preserved c = grind (arith, drop_more)
