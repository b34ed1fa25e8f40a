use Rattle.network_run.proofs.Submitting.{feed_ready, feed_refused, feed_submitted, own_of}
use Rattle.network_run.proofs.input.feed.Goals as goal

pub returns-in-Ok-clause-takes : goal.returns-in-Ok-clause-takes
returns-in-Ok-clause-takes c = λ quiet given due voices.
    feed_submitted c.args.mote c.args.input c.args.steps.now c.feed.new.self c.requires.rests c.in-Ok.ensures.waits quiet given due voices

pub returns-in-Ok-clause-ready : goal.returns-in-Ok-clause-ready
returns-in-Ok-clause-ready c =
    feed_ready c.args.mote c.args.input c.args.steps.now c.feed.new.self c.requires.rests c.in-Ok.ensures.waits c.requires.there c.requires.outside

pub returns-in-Err-clause-takes : goal.returns-in-Err-clause-takes
returns-in-Err-clause-takes c = λ quiet given due voices.
    let own = own_of c.args.mote c.args.input c.args.steps.now _ c.requires.rests c.requires.there c.requires.outside c.in-Err.ensures.refused.0 in
    feed_refused c.args.mote c.args.input c.args.steps.now c.feed.new.self _ c.cause_of.result c.requires.rests c.requires.there own c.cause_of.ensures
    c.in-Err.ensures.refused.1 quiet given due voices
