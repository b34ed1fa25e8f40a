use Rattle.std.proofs.Common.{refl}
use Rattle.mote_session.specs.Voices.{Voices}
use Rattle.network_steps.specs.Code.Going.{GoesBy, PassesBy, came_in}
use Rattle.network_steps.proofs.Going.{err_on, goes_on, no_voices, passes_on, passes_still, stops_on}
use Rattle.network_steps.specs.contracts.steps.NetworkSteps.{the_view}
use Rattle.network_steps.proofs.steps.NetworkSteps.go_on.Goals as goal

pub loop-init : goal.loop-init
loop-init c =
    let reported = rw (← c.self.view_is) at c.requires.reported in
    record {
      passes = λ voices. rw (← c.self.view_is) (passes_still (the_view c.self.inside) voices reported);
      works = refl;
      reported = reported;
    }

pub returns-in_err-step_on-clause-failed : goal.returns-in_err-step_on-clause-failed
returns-in_err-step_on-clause-failed c =
    err_on c.from_residual.result _ _ c.from_residual.ensures.1 (λ voices. stops_on (c.loop.invariant.passes voices) (c.in_err-step_on.ensures.failed voices))

pub loop-preserved : goal.loop-preserved
loop-preserved c =
    let steps : (voices : Voices) → PassesBy c.loop.self c.step_on.new.self voices voices = rw c.if-not-branch.true at c.in_ok-step_on.ensures.steps in
    record {
      passes = λ voices. passes_on (c.loop.invariant.passes voices) (steps voices);
      works = (steps no_voices).works;
      reported = (steps no_voices).sending;
    }

pub returns-clause-went : goal.returns-clause-went
returns-clause-went c = λ voices.
    let steps : (voices : Voices) → GoesBy (came_in c.step_on.new.self) c.loop.self c.step_on.new.self voices voices =
    rw c.if-not-branch.false at c.in_ok-step_on.ensures.steps in
    rw c.came.ensures (goes_on c.requires.reported (c.loop.invariant.passes voices) (steps voices))
