use Rattle.std.proofs.Common.{◌≡◌, ◌<◌, ap, ◌∙◌, None, length}
use Rattle.network_session.specs.Network.{NetworkView}
use Rattle.network_session.proofs.Steady.{steady_begun}
use Rattle.network_session.proofs.network.Network.hand_over.Goals as goal

pub invariant_of-self-2 : goal.invariant_of-self-2
invariant_of-self-2 c =
    let h = c.in_ok-hand_in.ensures.handed in
    let e : c.self.inside.active ≡ None = ap (λ (v : NetworkView). v.active) c.self.view_is ∙ c.requires.closed in
    let within : c.args.m < length c.self.inside.motes.items = rw (← c.self.view_is) at c.requires.within in
    steady_begun c.args.m c.self.inside.motes.items c.self.inside.wakes h.after c.hand_in.new.motes.items c.self.inside.target h.others within (rw e at c.self.invariant)
