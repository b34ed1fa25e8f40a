use Rattle.network_steps.proofs.Going.{apart_if, err_on, nearer_if, steps_by, stops_step}
use Rattle.network_steps.specs.NetworkRuns.{DoesStep}
use Rattle.network_steps.specs.contracts.steps.NetworkSteps.{the_view}
use Rattle.network_steps.proofs.steps.NetworkSteps.step_on.Goals as goal

pub returns-in_err-outcome-clause-failed : goal.returns-in_err-outcome-clause-failed
returns-in_err-outcome-clause-failed c =
    rw (← c.self.view_is)
    (err_on c.from_residual.result _ _ c.from_residual.ensures.1
    (λ voices. stops_step _ (the_view c.self.inside) c.step.new.self voices c.in_err-outcome.ensures.why c.in_err-outcome.ensures.refused))

pub returns-in_default : goal.returns-in_default
returns-in_default c =
    let x = c.in_ok-outcome.outcome in
    let s = the_view c.self.inside in
    let new = c.come_if.new.self in
    let net = c.step.new.self in
    let does : DoesStep x c.self.inside.network net =
    record { steps = c.in_ok-outcome.ensures.stepped; due = c.in_ok-outcome.ensures.due; work = c.in_ok-outcome.ensures.work } in
    let works = rw (← c.self.view_is) at c.requires.works in
    let reported = rw (← c.self.view_is) at c.requires.reported in
    record {
      steps = λ voices. rw (← c.self.view_is)
          (steps_by x c.come_if.result s new net does c.come_if.ensures.reported c.come_if.ensures.noted voices reported works
          (λ e. absurd (c.in_default.not-Rest e)));
      apart = rw (← c.self.view_is) (apart_if x c.come_if.result s new net does c.come_if.ensures.reported c.come_if.ensures.noted);
      nearer = rw (← c.self.view_is)
          (nearer_if x c.come_if.result s new net does c.come_if.ensures.reported c.come_if.ensures.noted c.entries_are_few.ensures);
      failed = tt;
    }
