use Rattle.timer_core.proofs.Lemmas.{◌∙◌, ap, refl, first_due, nothing_passed}
use Rattle.timer_core.proofs.watched.WatchedTable.new.Goals as goal

pub invariant_of-result : goal.invariant_of-result
invariant_of-result c = (λ clock before. ap (first_due clock) c.new.ensures ∙ refl, nothing_passed _ _)
