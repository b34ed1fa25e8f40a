use Rattle.std.proofs.Common.{arith}
use Rattle.mote_types.specs.declared.event.Origin.{Origin}
use Rattle.process_core.specs.declared.next_job.NextJob.{NextJob}
use Rattle.kernel_core.proofs.Common.{job_in}
use Rattle.kernel_core.proofs.Drawing.{job_is_fit}
use Rattle.kernel_core.proofs.Reaching.{fields_reach}
use Rattle.kernel_core.proofs.kernel_fields.KernelFields.next_answer.Goals as goal

pub returns-clause-reached : goal.returns-clause-reached
returns-clause-reached c = λ choices other.
    fields_reach choices c.args.self.now c.take_answer.new.self
    (job_in (NextJob.TakeTurn c.in_ok-pid.pid Origin.Answer) c.take_answer.new.self.kept other) c.requires.at_work.running
    c.requires.at_work.shown (c.in_ok-pid.ensures.job other)

pub returns-clause-fit : goal.returns-clause-fit
returns-clause-fit c = λ other.
    let fit = job_is_fit c.args.self.now.timers.value.armings.drawn c.args.self.now.scheduler.state c.take_answer.new.self.state
    (job_in (NextJob.TakeTurn c.in_ok-pid.pid Origin.Answer) c.take_answer.new.self.kept other) c.requires.at_work.order.events
    (c.in_ok-pid.ensures.job other) in
    record { events = fit.0; draws = omega arith; job = fit.2 }
