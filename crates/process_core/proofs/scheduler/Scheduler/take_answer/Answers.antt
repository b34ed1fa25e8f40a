use Rattle.std.proofs.Common.{rules}
use Rattle.mote_types.specs.declared.event.Origin.{Origin}
use Rattle.mote_types.specs.declared.event.Stimulus.{Stimulus}
use Rattle.process_core.specs.Code.SchedulerFields.{callback_in, turn_in}
use Rattle.process_core.specs.declared.next_job.NextJob.{NextJob}
use Rattle.process_core.proofs.Lemmas.{Some, ap, scheduler_of, ComesTo, FindsJob, job_in, kept_in, behind_is_all, applications_from_comes_to, nothing_shown}
use Rattle.process_core.proofs.scheduler.Scheduler.take_answer.Goals as goal

abbrev taken : (c : goal.After-each_is_once) → NextJob
taken c = NextJob.TakeTurn c.in_ok-pid.pid Origin.Answer

finds : (c : goal.After-each_is_once) (other : Stimulus) → FindsJob (scheduler_of c.self.inside.fields) (Some (taken c)) other c.take_answer.new.self
finds c other = c.in_ok-pid.ensures.finds other

comes_to : (c : goal.After-each_is_once) (other : Stimulus)
    → ComesTo c.args.self.now.state (job_in (taken c) (kept_in c.take_answer.new.self) other) (scheduler_of c.take_answer.new.self)
comes_to c other =
    let f = finds c other in
    rw (← c.self.view_is) (rw (behind_is_all c.take_answer.new.self (Some (taken c)) f.front) at f.yields)

pub invariant_of-self-2 : goal.invariant_of-self-2
invariant_of-self-2 c = (c.in_ok-pid.ensures.finds (Stimulus.Callback 0)).order

pub returns-clause-job : goal.returns-clause-job
returns-clause-job c = comes_to c

pub returns-clause-turn : goal.returns-clause-turn
returns-clause-turn c = ap turn_in (finds c (Stimulus.Callback 0)).front

pub returns-clause-callback : goal.returns-clause-callback
returns-clause-callback c = ap callback_in (finds c (Stimulus.Callback 0)).front

pub returns-clause-active : goal.returns-clause-active
returns-clause-active c = let order = (finds c (Stimulus.Callback 0)).order in let front = (finds c (Stimulus.Callback 0)).front in search rules

pub returns-clause-applications : goal.returns-clause-applications
returns-clause-applications c =
    applications_from_comes_to c.args.self.now.state (job_in (taken c) (kept_in c.take_answer.new.self) (Stimulus.Callback 0))
    (scheduler_of c.take_answer.new.self) (comes_to c (Stimulus.Callback 0))

pub returns-clause-standing : goal.returns-clause-standing
returns-clause-standing c =
    let order = (finds c (Stimulus.Callback 0)).order in
    record {
      few = order.few;
      mote = order.sound.mote;
      distinct = c.each_is_once.ensures;
      nothing_shown = nothing_shown c.take_answer.new.self;
    }
