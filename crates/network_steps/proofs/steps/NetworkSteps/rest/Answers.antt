use Rattle.std.proofs.Common.{sym}
use Rattle.network_steps.proofs.Going.{goes_rest}
use Rattle.network_steps.specs.contracts.steps.NetworkSteps.{the_view}
use Rattle.network_steps.proofs.steps.NetworkSteps.rest.Goals as goal

pub returns-in-None-clause-steps : goal.returns-in-None-clause-steps
returns-in-None-clause-steps c = λ voices.
    let rests = rw (← c.self.view_is) at c.requires.rests in
    let reported = rw (← c.self.view_is) at c.requires.reported in
    rw (← c.self.view_is)
    (goes_rest (the_view c.self.inside) c.take.new.self voices rests reported (sym c.in-None.ensures.value) c.in-None.ensures.after)
