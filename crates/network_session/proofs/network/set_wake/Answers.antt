use Rattle.std.proofs.Common.{◌≡◌, ap, set, ◌∙◌}
use Rattle.mote_session.specs.SessionView.{SessionView}
use Rattle.network_session.specs.Waking.{wake}
use Rattle.network_session.proofs.Working.{get_of}
use Rattle.network_session.proofs.network.set_wake.Goals as goal

pub returns : goal.returns
returns c mote there =
    let same : c.index.result.now ≡ mote = c.index.ensures ∙ get_of c.args.motes.now.items c.args.m mote c.index.result.now there in
    c.set.ensures ∙ ap (set c.args.wakes.now c.args.m) (c.wake_of.ensures ∙ ap (λ (v : SessionView). wake v.machine) same)
