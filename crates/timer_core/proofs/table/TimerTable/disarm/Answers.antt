use Rattle.timer_core.proofs.Lemmas.{◌∙◌, sym, nothing_removed}
use Rattle.timer_core.proofs.table.TimerTable.disarm.Goals as goal

pub returns-else-is_armed : goal.returns-else-is_armed
returns-else-is_armed c = nothing_removed _ _ (sym c.is_armed.ensures ∙ c.if-is_armed.false)
