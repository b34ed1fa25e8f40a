use Rattle.network_session.proofs.Submitting.{steady_if_said}
use Rattle.network_session.proofs.network.Network.submit_from.Goals as goal

pub invariant_of-self-in-Some : goal.invariant_of-self-in-Some
invariant_of-self-in-Some g c =
    rw c.in-Some.is (steady_if_said c.in-Some.m (g.S.CallSource.said c.args.source.now) c.self.inside.motes.items c.submit_from_in.new.motes.items
    c.self.inside.wakes c.self.inside.target c.in_ok-is_said-in-Some.ensures.submitted (rw c.in-Some.is at c.self.invariant))
