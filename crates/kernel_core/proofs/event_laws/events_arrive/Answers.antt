use Rattle.kernel_core.proofs.event_laws.events_arrive.Goals as goal
use Rattle.kernel_core.proofs.run_laws.event_order.Runs.{ran}
use Rattle.kernel_core.proofs.run_laws.event_order.Sound.{events-kept}
use Rattle.kernel_core.proofs.run_laws.timer_deadlines.Attended.{timers-kept}

pub returns-clause-events : goal.returns-clause-events
returns-clause-events c = λ config says inputs after runs. events-kept (ran config says inputs after runs)

pub returns-clause-timers : goal.returns-clause-timers
returns-clause-timers c = λ config says inputs after boots runs. timers-kept (ran config says inputs after runs) boots
