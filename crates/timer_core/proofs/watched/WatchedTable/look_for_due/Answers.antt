use Rattle.timer_core.proofs.watched.WatchedTable.look_for_due.Goals as goal

pub invariant_of-self : goal.invariant_of-self
invariant_of-self c = (c.self.invariant.0, c.in-Due.ensures.2.passed)
