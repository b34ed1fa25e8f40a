use Rattle.std.proofs.Common.{rules, refl, arith, ap}
use Rattle.kernel_core.proofs.Reaching.{then_job, job_makes, job_silently}
use Rattle.kernel_core.proofs.Common.{present, KernelFields}
use Rattle.process_core.specs.Code.SchedulerView.{told}
use Rattle.kernel_core.proofs.kernel_fields.KernelFields.work_to_entry.Goals as goal

pub returns-then-begin_turn : goal.returns-then-begin_turn
returns-then-begin_turn c = record {
  awaits = λ is choices.
      let stimulus = told c.in-TakeTurn.origin c.next_job.new.self.scheduler.kept c.next_job.new.apart in
      rw (ap (λ (k : KernelFields). k.scheduler.kept) (c.begin_turn.ensures.more (search rules)).0)
      (job_makes (then_job (c.job.invariant.so_far choices) (c.in-TakeTurn.ensures.reached choices))
      (c.begin_turn.ensures.begins (search rules) c.in-TakeTurn.pid c.in-TakeTurn.origin stimulus (choices c.in-TakeTurn.pid.0 stimulus)));
  opens = search rules;
  goes = search rules;
  worked = search rules;
}

pub returns-in-TakeTurn : goal.returns-in-TakeTurn
returns-in-TakeTurn c = record {
  awaits = search rules;
  opens = search rules;
  goes = λ is choices.
      job_makes (then_job (c.job.invariant.so_far choices) (c.in-TakeTurn.ensures.reached choices))
      (c.begin_turn.ensures.halts (search rules) _);
  worked = search rules;
}

pub job-preserved-in-Serve : goal.job-preserved-in-Serve
job-preserved-in-Serve c = record {
  found = search rules;
  so_far = λ choices. job_silently (then_job (c.job.invariant.so_far choices) (c.in-Serve.ensures.reached choices))
      (c.serve.ensures.machine choices _);
  present =
      omega (arith, (c.in-Serve.ensures.paid _ c.job.invariant.present).1);
}

pub job-preserved-in-Hear : goal.job-preserved-in-Hear
job-preserved-in-Hear c = record {
  found = search rules;
  so_far = λ choices. job_silently (then_job (c.job.invariant.so_far choices) (c.in-Hear.ensures.reached choices))
      (c.serve-in-Hear.ensures.machine choices _);
  present =
      omega (arith, (c.in-Hear.ensures.paid _ c.job.invariant.present).1);
}

pub job-preserved-in-CallBack : goal.job-preserved-in-CallBack
job-preserved-in-CallBack c = record {
  found = search rules;
  so_far = λ choices. (job_silently (then_job (c.job.invariant.so_far choices) (c.in-CallBack.ensures.reached choices))
      (rw (← (ap (λ (k : KernelFields). k.timers) c.in-CallBack.ensures.taken.kept)) (c.expire.ensures.machine choices)));
  present =
      omega (arith, (c.in-CallBack.ensures.paid _ c.job.invariant.present).1);
}

pub returns-in-Rest : goal.returns-in-Rest
returns-in-Rest c = record {
  awaits = search rules;
  opens = search rules;
  goes = λ is choices. record {
    before = job_silently (then_job (c.job.invariant.so_far _) (c.in-Rest.ensures.reached _)) refl;
    at_rest = search rules;
  };
  worked = search rules;
}

pub returns-then-not-begin_round : goal.returns-then-not-begin_round
returns-then-not-begin_round c = record {
  awaits = search rules;
  opens = search rules;
  goes = λ is choices. job_makes (then_job (c.job.invariant.so_far _) (c.in-Round.ensures.reached _))
      (c.begin_round.ensures.halts (search rules));
  worked = search rules;
}

pub job-preserved : goal.job-preserved
job-preserved c = record {
  found = search rules;
  so_far = λ choices. job_silently (then_job (c.job.invariant.so_far choices) (c.in-Round.ensures.reached choices))
      (c.begin_round.ensures.begins (search rules));
  present =
      omega (
        arith,
        (c.in-Round.ensures.paid _ c.job.invariant.present).1,
        ap (λ (k : KernelFields). present k.scheduler.state) c.begin_round.ensures.kept,
      );
}

pub job-smaller-in-CallBack : goal.job-smaller-in-CallBack
job-smaller-in-CallBack c = grind arith

pub job-smaller-in-Serve : goal.job-smaller-in-Serve
job-smaller-in-Serve c = grind arith

pub job-smaller-in-Hear : goal.job-smaller-in-Hear
job-smaller-in-Hear c = grind arith
