use Rattle.std.proofs.Common.{ap, refl, ◌∙◌}
use Rattle.network_steps.specs.Refusals.{fault_if}
use Rattle.network_steps.proofs.GivenInputs.{refusal_is}
use Rattle.network_steps.proofs.Reports.{told_so}
use Rattle.network_steps.proofs.steps.NetworkSteps.tell_if_behind.Goals as goal

pub returns-in-Ok-clause-told : goal.returns-in-Ok-clause-told
returns-in-Ok-clause-told c =
    let phase = rw (← c.self.view_is) at c.requires.rests in
    let there = rw (← c.self.view_is) at c.requires.there in
    rw (← c.self.view_is)
    (told_so c.args.mote c.self.inside.network c.give_time.new.network c.in-Ok.field-0 (rw phase at c.self.invariant) there c.in-Ok.ensures.behind
    c.in-Ok.ensures.given c.in-Ok.ensures.kept)

pub returns-in-Ok-clause-accepted : goal.returns-in-Ok-clause-accepted
returns-in-Ok-clause-accepted c =
    let there = rw (← c.self.view_is) at c.requires.there in
    rw (← c.self.view_is) (refusal_is c.args.mote c.self.inside.network there ∙ ap fault_if c.in-Ok.ensures.accepted)

pub returns-in-Err-clause-refused : goal.returns-in-Err-clause-refused
returns-in-Err-clause-refused c =
    let there = rw (← c.self.view_is) at c.requires.there in
    rw (← c.self.view_is, c.in-Err.ensures.refused.1, c.fault_of.ensures)
    (refusal_is c.args.mote c.self.inside.network there ∙ ap fault_if c.in-Err.ensures.refused.0, refl)
