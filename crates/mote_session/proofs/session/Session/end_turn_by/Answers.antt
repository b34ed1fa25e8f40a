use Rattle.mote_session.proofs.session.Session.end_turn_by.Goals as goal

pub returns-then-self-clause-speaks : goal.returns-then-self-clause-speaks
returns-then-self-clause-speaks g c = c.end_turn_in.ensures.speaks c.self.inside.even c.self.inside.other

pub returns-else-self-clause-speaks : goal.returns-else-self-clause-speaks
returns-else-self-clause-speaks g c = c.end_turn_in-else-self.ensures.speaks c.self.inside.odd c.self.inside.other
