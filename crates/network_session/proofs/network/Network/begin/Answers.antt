use Rattle.std.proofs.Common.{◌≡◌, ◌<◌, length, arith, ap, rules}
use Rattle.network_session.specs.Network.{NetworkView}
use Rattle.network_session.proofs.Due.{due_left}
use Rattle.network_session.proofs.Moments.{come_within}
use Rattle.network_session.proofs.StepRefusals.{refused_step, refused_time}
use Rattle.network_session.specs.Schedule.{due_step}
use Rattle.network_session.specs.declared.outcome.Outcome.{Outcome}
use Rattle.network_session.proofs.network.Network.begin.Goals as goal

pub tell_time-requires-clause-within : goal.tell_time-requires-clause-within
tell_time-requires-clause-within c =
    let within = come_within c.clock.result c.in-Some.m c.self.inside.wakes c.in-Some.ensures in
    let all : length c.self.inside.motes.items ≡ length c.args.self.now.motes = ap (λ (v : NetworkView). length v.motes) c.self.view_is in
    omega (arith, within, all, c.self.invariant.each)

pub returns-in-Some-clause-why : goal.returns-in-Some-clause-why
returns-in-Some-clause-why c =
    let net = c.args.self.now in
    let within : c.in-Some.m < length net.motes =
    (let come = come_within c.clock.result c.in-Some.m c.self.inside.wakes c.in-Some.ensures in
    let all : length c.self.inside.motes.items ≡ length net.motes = ap (λ (v : NetworkView). length v.motes) c.self.view_is in
    omega (arith, come, all, c.self.invariant.each)) in
    let due : due_step net ≡ Outcome.Woken c.in-Some.m = search (rules, due_left) in
    refused_step c.tell_time.result net (Outcome.Woken c.in-Some.m) c.requires due (refused_time c.tell_time.result net c.in-Some.m within c.tell_time.ensures.why)
