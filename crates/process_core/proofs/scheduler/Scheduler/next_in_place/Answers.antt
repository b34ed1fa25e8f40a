use Rattle.process_core.proofs.Lemmas.{Some, scheduler_of, ComesTo, FindsJob, job_in, kept_in, behind_is_all, applications_from_comes_to, event_held, finds_after, idle_from_rest, served_below, nothing_shown}
use Rattle.std.proofs.Common.{subst}
use Rattle.process_core.specs.Code.SchedulerView.{served}
use Rattle.process_core.proofs.scheduler.Scheduler.next_in_place.Goals as goal
use Rattle.process_core.proofs.scheduler.Scheduler.next_in_place.Goals.{in-Some, in-None}

-- the front or the work after it led to the job
finds : (c : goal.After-each_is_once)
    → FindsJob (scheduler_of c.self.inside.fields) (Some c.match-take_front.ready) c.match-take_front.other
    c.match-take_front.self-inside.fields
finds c =
    elim c.match-take_front.branch [
      | in-Some w ↦ rw (w.other-is, w.ready-is, w.self-inside-is) w.in-Some.ensures
      | in-None w ↦ rw (w.other-is, w.ready-is, w.self-inside-is) (finds_after w.in-None.ensures w.work_on-ready.ensures)
    ]

comes_to : (c : goal.After-each_is_once)
    → ComesTo c.args.self.now.state (job_in c.match-take_front.ready (kept_in c.match-take_front.self-inside.fields) c.match-take_front.other)
    (scheduler_of c.match-take_front.self-inside.fields)
comes_to c =
    let f = finds c in
    rw (← c.self.view_is) (rw (behind_is_all c.match-take_front.self-inside.fields (Some c.match-take_front.ready) f.front) at f.yields)

pub returns-clause-served : goal.returns-clause-served
returns-clause-served c = λ p serves.
    let held = event_held _ (rw serves at ((finds c).holds)) in (
      served_below c.args.self.now.state p.0 held.0 (scheduler_of c.match-take_front.self-inside.fields)
          (rw (serves, held.1) at (comes_to c)),
      held.0,
      held.1,
    )

pub returns-clause-heard : goal.returns-clause-heard
returns-clause-heard c = λ p hears.
    let held = event_held c.match-take_front.self-inside.fields.broadcast (rw hears at ((finds c).holds)) in
    let comes = rw hears at (comes_to c) in (
      served_below c.args.self.now.state p.0 held.0 (scheduler_of c.match-take_front.self-inside.fields)
          (subst (λ event. ComesTo c.args.self.now.state (served p event) (scheduler_of c.match-take_front.self-inside.fields)) held.1 comes),
      held.0,
      held.1,
    )

pub returns-clause-rest : goal.returns-clause-rest
returns-clause-rest c = λ rests.
    let idle = idle_from_rest c.args.self.now.state (scheduler_of c.match-take_front.self-inside.fields) (rw rests at (comes_to c)) in
    (idle.done, idle.quiet)

pub returns-clause-job : goal.returns-clause-job
returns-clause-job c = comes_to c

pub returns-clause-applications : goal.returns-clause-applications
returns-clause-applications c =
    applications_from_comes_to c.args.self.now.state (job_in c.match-take_front.ready (kept_in c.match-take_front.self-inside.fields) c.match-take_front.other)
    (scheduler_of c.match-take_front.self-inside.fields) (comes_to c)

pub returns-clause-standing : goal.returns-clause-standing
returns-clause-standing c =
    let order = (finds c).order in
    record {
      few = order.few;
      mote = order.sound.mote;
      distinct = c.each_is_once.ensures;
      nothing_shown =
          nothing_shown c.match-take_front.self-inside.fields;
    }
