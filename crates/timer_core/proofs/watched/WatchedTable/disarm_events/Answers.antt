use Rattle.timer_core.proofs.Lemmas.{◌∙◌, ap, first_due, none_due_in_fewer, nothing_passed}
use Rattle.timer_core.proofs.watched.WatchedTable.disarm_events.Goals as goal

pub invariant_of-self : goal.invariant_of-self
invariant_of-self c = (
  λ clock before. ap (first_due clock) c.disarm_events.ensures
      ∙ none_due_in_fewer clock _ c.self.inside.table (c.self.invariant.0 clock before),
  nothing_passed _ _,
)
