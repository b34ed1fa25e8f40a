use Rattle.std.proofs.Common.{rules, ap}
use Rattle.mote_types.specs.declared.event.Origin.{Origin}
use Rattle.process_core.specs.Code.SchedulerView.{told}
use Rattle.kernel_core.proofs.Common.{KernelFields}
use Rattle.kernel_core.proofs.Reaching.{job_makes}
use Rattle.kernel_core.proofs.kernel_fields.KernelFields.work_to_answer.Goals as goal

pub returns-then-begin_turn-clause-works : goal.returns-then-begin_turn-clause-works
returns-then-begin_turn-clause-works c =
    let fit = c.in_ok-pid.ensures.fit c.args.turn.now.stimulus in
    record {
      awaits = λ is choices.
          let other = c.args.turn.now.stimulus in
          let stimulus = told Origin.Answer c.next_answer.new.self.scheduler.kept other in
          rw (ap (λ (k : KernelFields). k.scheduler.kept) (c.begin_turn.ensures.more (search rules)).0)
          (job_makes (c.in_ok-pid.ensures.reached choices other)
          (c.begin_turn.ensures.begins (search rules) c.in_ok-pid.pid Origin.Answer stimulus (choices c.in_ok-pid.pid.0 stimulus)));
      opens = search rules;
      goes = search rules;
      worked = search rules;
    }

pub returns-clause-works : goal.returns-clause-works
returns-clause-works c =
    let fit = c.in_ok-pid.ensures.fit c.args.turn.now.stimulus in
    record {
      awaits = search rules;
      opens = search rules;
      goes = λ is choices.
          job_makes (c.in_ok-pid.ensures.reached choices c.args.turn.now.stimulus) (c.begin_turn.ensures.halts (search rules) _);
      worked = search rules;
    }
