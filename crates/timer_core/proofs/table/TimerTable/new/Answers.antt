use Rattle.timer_core.proofs.Lemmas.{timers_at_boot, table_at_boot}
use Rattle.timer_core.proofs.table.TimerTable.new.Goals as goal

pub invariant_of-result : goal.invariant_of-result
invariant_of-result c = table_at_boot

pub returns : goal.returns
returns c = timers_at_boot
