use Rattle.network_run.proofs.Submitting.{tick_ready, tick_refused, tick_submitted}
use Rattle.network_run.proofs.input.tick.Goals as goal

pub returns-in-Ok-clause-takes : goal.returns-in-Ok-clause-takes
returns-in-Ok-clause-takes c = λ quiet given due voices.
    tick_submitted c.args.ticks c.args.steps.now c.tick.new.self c.requires.rests c.in-Ok.ensures.passes c.in-Ok.ensures.accepted quiet given due voices

pub returns-in-Ok-clause-ready : goal.returns-in-Ok-clause-ready
returns-in-Ok-clause-ready c = tick_ready c.args.ticks c.args.steps.now c.tick.new.self c.requires.rests c.in-Ok.ensures.passes

pub returns-in-Err-clause-takes : goal.returns-in-Err-clause-takes
returns-in-Err-clause-takes c = λ quiet given due voices.
    tick_refused c.args.ticks c.args.steps.now c.tick.new.self _ c.requires.rests c.in-Err.ensures.refused.0 c.in-Err.ensures.refused.1 quiet given due voices
