use Rattle.kernel_core.proofs.Common.{job_in}
use Rattle.kernel_core.proofs.Reaching.{fields_reach}
use Rattle.std.proofs.Common.{arith, rules}
use Rattle.kernel_core.proofs.Drawing.{job_is_fit}
use Rattle.kernel_core.proofs.Costs.{job_is_paid}
use Rattle.kernel_core.proofs.kernel_fields.KernelFields.next_job.Goals as goal

pub returns-clause-reached : goal.returns-clause-reached
returns-clause-reached c = λ choices. search (rules, fields_reach)

pub returns-clause-paid : goal.returns-clause-paid
returns-clause-paid c = λ bound few.
    job_is_paid bound c.args.self.now.scheduler.state c.next_in_place.new.self.state
    (job_in c.next_in_place.result c.next_in_place.new.self.kept c.next_in_place.new.other) few c.next_in_place.ensures.job

pub returns-clause-fit : goal.returns-clause-fit
returns-clause-fit c =
    let fit = job_is_fit c.args.self.now.timers.value.armings.drawn c.args.self.now.scheduler.state c.next_in_place.new.self.state
    (job_in c.next_in_place.result c.next_in_place.new.self.kept c.next_in_place.new.other) c.requires.at_work.order.events c.next_in_place.ensures.job in
    record { events = fit.0; draws = omega arith; job = fit.2 }

pub returns-clause-served : goal.returns-clause-served
returns-clause-served c = λ pid is bound few.
    (rw (is, (c.next_in_place.ensures.served pid is).2) at (job_is_paid bound c.args.self.now.scheduler.state c.next_in_place.new.self.state
    (job_in c.next_in_place.result c.next_in_place.new.self.kept c.next_in_place.new.other) few c.next_in_place.ensures.job)).0

pub returns-clause-heard : goal.returns-clause-heard
returns-clause-heard c = λ pid is bound few.
    (rw (is, (c.next_in_place.ensures.heard pid is).2) at (job_is_paid bound c.args.self.now.scheduler.state c.next_in_place.new.self.state
    (job_in c.next_in_place.result c.next_in_place.new.self.kept c.next_in_place.new.other) few c.next_in_place.ensures.job)).0
