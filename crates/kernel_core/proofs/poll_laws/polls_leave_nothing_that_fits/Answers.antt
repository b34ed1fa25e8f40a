use Rattle.kernel_core.proofs.Leftover.{due_or_full, told_or_full}
use Rattle.kernel_core.proofs.poll_laws.polls_leave_nothing_that_fits.Goals as goal

pub returns-clause-timers : goal.returns-clause-timers
returns-clause-timers c = due_or_full

pub returns-clause-frames : goal.returns-clause-frames
returns-clause-frames c = told_or_full
