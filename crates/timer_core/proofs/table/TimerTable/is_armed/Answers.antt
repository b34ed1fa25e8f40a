use Rattle.timer_core.proofs.Lemmas.{◌∙◌, ap, is_armed}
use Rattle.timer_core.proofs.table.TimerTable.is_armed.Goals as goal

pub returns : goal.returns
returns c = rw c.slot.ensures.value (c.self.invariant.flags c.args.timer c.requires) ∙ ap (is_armed c.args.timer) c.self.view_is
