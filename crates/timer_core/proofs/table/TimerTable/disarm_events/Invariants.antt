use Rattle.timer_core.proofs.Lemmas.{◌≡◌, below, is_event_timer_of, without}
use Rattle.timer_core.proofs.table.TimerTable.disarm_events.Given as goal

abbrev pub invariant-loop-number : goal.invariant-loop-number
invariant-loop-number l = l.self ≡ without (below (is_event_timer_of l.pid.0) l.number) l.fn.self
