use Rattle.timer_core.proofs.Lemmas.{◌∙◌, ap, sym, subst, first_due, none_due_in_fewer, passed_without, follows_passed}
use Rattle.timer_core.specs.Code.Outlooks.{IsPassed}
use Rattle.timer_core.proofs.watched.WatchedTable.take_due.Goals as goal

pub unlink-requires-clause-follows : goal.unlink-requires-clause-follows
unlink-requires-clause-follows c = follows_passed c.self.inside.table _ c.in-Due.passed c.in-Due.ensures.2

pub invariant_of-self : goal.invariant_of-self
invariant_of-self c = (
  λ clock before. ap (first_due clock) c.unlink.ensures ∙ none_due_in_fewer clock _ c.self.inside.table (c.self.invariant.0 clock before),
  subst (IsPassed c.in-Due.passed) (sym c.unlink.ensures) (passed_without c.self.inside.table _ c.in-Due.passed c.in-Due.ensures.2),
)
