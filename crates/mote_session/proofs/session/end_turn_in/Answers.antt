use Rattle.mote_session.proofs.Taking.{makes_call, spoke_last}
use Rattle.mote_session.proofs.session.end_turn_in.Goals as goal

pub returns-clause-submitted : goal.returns-clause-submitted
returns-clause-submitted g c = λ taken working other.
    let e = c.call_in.ensures in
    makes_call c.args.kernel.now c.call_in.new.kernel c.args.turn.now c.call_in.new.turn taken working other c.args.last.now
    c.args.pid c.requires.open c.requires.process e.turn e.machine e.closed e.clock e.inputs e.left

pub returns-clause-speaks : goal.returns-clause-speaks
returns-clause-speaks g c = λ working other.
    let e = c.call_in.ensures in
    spoke_last c.args.mote c.args.turn.now c.call_in.new.turn c.args.pid _ _ c.requires.process e.turn e.call
