use Rattle.timer_core.proofs.Lemmas.{◌≡◌, below, is_callback_timer_of, without}
use Rattle.timer_core.proofs.table.TimerTable.disarm_callbacks.Given as goal

abbrev pub invariant-loop-number : goal.invariant-loop-number
invariant-loop-number l = l.self ≡ without (below (is_callback_timer_of l.pid.0) l.number) l.fn.self
