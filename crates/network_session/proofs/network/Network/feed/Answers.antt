use Rattle.std.proofs.Common.{◌≡◌, ◌<◌, ◌≤◌, length, arith, refl, subst, false}
use Rattle.network_session.specs.Network.{NetworkView}
use Rattle.network_session.specs.Refusals.{is_tick}
use Rattle.network_session.proofs.Due.{get_there, none_active}
use Rattle.network_session.proofs.Refusing.{IsOnTime, feed_accepted, feed_fed, feed_refused, is_not}
use Rattle.network_session.proofs.network.Network.feed.Goals as goal

on_time : (c : goal.After-hand_over) → IsOnTime c.args.self.now c.args.m c.args.input c.index.result.now
on_time c =
    let e = none_active c.self.inside.active c.if-is_some.ensures in
    let within : c.args.m < length c.self.inside.motes.items = omega (arith, c.if-m-len.false, c.len.ensures) in
    let there = get_there c.self.inside.motes.items c.args.m c.index.result.now within c.index.ensures in
    let late : c.self.inside.medium.clock ≤ c.index.result.now.machine.clock = omega (arith, c.if-clock.false, c.clock.ensures.value, c.clock-2.ensures.value) in
    let no_tick : is_tick c.args.input ≡ false = is_not (is_tick c.args.input) c.if-not-is_timeless.ensures.tick in
    subst (λ (v : NetworkView). IsOnTime v c.args.m c.args.input c.index.result.now) c.self.view_is
    (record { idle = e; there = there; no_tick = no_tick; on_time = late })

pub returns-clause-fed : goal.returns-clause-fed
returns-clause-fed c =
    feed_fed c.hand_over.result c.args.self.now c.hand_over.new.self c.args.m c.args.input c.index.result.now (on_time c)
    (c.if-not-is_timeless.ensures.timeless refl) c.hand_over.ensures.handed c.hand_over.ensures.active

pub returns-clause-accepted : goal.returns-clause-accepted
returns-clause-accepted c =
    feed_accepted c.hand_over.result c.args.self.now c.args.m c.args.input c.index.result.now (on_time c) c.hand_over.ensures.accepted

pub returns-clause-refused : goal.returns-clause-refused
returns-clause-refused c =
    feed_refused c.hand_over.result c.args.self.now c.hand_over.new.self c.args.m c.args.input c.index.result.now (on_time c)
    c.hand_over.ensures.refused c.hand_over.ensures.why
