use Rattle.timer_core.proofs.Lemmas.{◌∙◌, sym, cell_read}
use Rattle.timer_core.proofs.table.TimerTable.cell.Goals as goal

pub returns-clause-value : goal.returns-clause-value
returns-clause-value c = c.cell.ensures
    ∙ rw (c.slot.ensures.value, ← c.self.view_is) (sym (cell_read c.self.inside.cells c.args.timer c.requires))
