use Rattle.network_session.proofs.Steady.{steady_on}
use Rattle.network_session.proofs.network.Network.submit.Goals as goal

pub invariant_of-self-in-Some : goal.invariant_of-self-in-Some
invariant_of-self-in-Some c =
    let h = c.in_ok-submit_in-in-Some.ensures.submitted in
    rw c.in-Some.is (steady_on c.in-Some.m c.self.inside.motes.items c.self.inside.wakes h.after c.submit_in.new.motes.items c.self.inside.target h.others
    (rw c.in-Some.is at c.self.invariant))
