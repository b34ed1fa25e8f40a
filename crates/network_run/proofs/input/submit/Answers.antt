use Rattle.std.proofs.Common.{length}
use Rattle.network_run.specs.Code.Way.{SubmitsIf, moment}
use Rattle.network_steps.specs.declared.input.NetworkInput.{NetworkInput}
use Rattle.network_run.proofs.Scripts.{mote_there, said_as}
use Rattle.network_run.proofs.input.submit.Goals as goal

pub returns-in-Tick-clause-takes : goal.returns-in-Tick-clause-takes
returns-in-Tick-clause-takes c = λ quiet given due voices. rw c.in-Tick.is (c.tick.ensures.takes quiet given due voices)

pub feed-requires-clause-there : goal.feed-requires-clause-there
feed-requires-clause-there c = mote_there _ c.in-ForMote.number c.args.input c.in-ForMote.input c.in-ForMote.is c.requires.for_some

pub feed-requires-clause-outside : goal.feed-requires-clause-outside
feed-requires-clause-outside c = rw c.in-ForMote.is at c.requires.outside

pub returns-in-ForMote-clause-takes : goal.returns-in-ForMote-clause-takes
returns-in-ForMote-clause-takes c = λ quiet given due voices.
    said_as
    (λ (said : NetworkInput). SubmitsIf c.feed.result quiet said c.feed.new.steps.waiting (moment given due c.args.steps.now.net voices)
    (moment given due c.feed.new.steps.net voices))
    c.args.input c.in-ForMote.number c.in-ForMote.input (length c.args.steps.now.net.motes) c.in-ForMote.is c.requires.for_some
    (c.feed.ensures.takes quiet given due voices)
