use Rattle.network_run.proofs.Steppers.{feed_stepper, link_stepper, losses_stepper, next_stepper, open_stepper, over_stepper, step_stepper, submit_stepper, tick_stepper}
use Rattle.network_run.proofs.laws.steppers_stay_ready.Goals as goal

pub returns : goal.returns
returns c = record {
  opened = open_stepper;
  over = over_stepper;
  link = link_stepper;
  next = next_stepper;
  step = step_stepper;
  losses = losses_stepper;
  submit = submit_stepper;
  tick = tick_stepper;
  feed = feed_stepper;
}
