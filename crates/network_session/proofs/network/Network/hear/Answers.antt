use Rattle.std.proofs.Common.{IfErr, Some, sym, ◌==◌, false, ◌≡◌, ◌<◌, ap, subst, ◌∙◌, None, length, arith}
use Rattle.network_session.specs.Network.{NetworkView}
use Rattle.medium_core.specs.Air.{arrival}
use Rattle.network_session.specs.Schedule.{arriving}
use Rattle.network_session.specs.declared.outcome.Outcome.{Outcome}
use Rattle.network_session.proofs.Due.{get_there, heard_due}
use Rattle.network_session.proofs.StepRefusals.{frame_refused, refused_arrival, refused_due, refused_time, woken_due}
use Rattle.network_session.specs.Refusals.{outcome_refusal}
use Rattle.network_session.proofs.Steady.{steady_begun}
use Rattle.network_session.proofs.network.Network.hear.Goals as goal

pub invariant_of-self-2 : goal.invariant_of-self-2
invariant_of-self-2 c =
    let h = c.in_ok-hand_frame_in.ensures.handed in
    let e : c.self.inside.active ≡ None = ap (λ (v : NetworkView). v.active) c.self.view_is ∙ c.requires in
    let within : c.in-Some.next.to < length c.self.inside.motes.items = omega (arith, c.if-to-len.false, c.len.ensures) in
    steady_begun c.in-Some.next.to c.self.inside.motes.items c.self.inside.wakes h.after c.hand_frame_in.new.motes.items c.self.inside.target h.others within (rw e at c.self.invariant)

pub returns-clause-due : goal.returns-clause-due
returns-clause-due c =
    let motes = c.self.inside.motes.items in
    let within : c.in-Some.next.to < length motes = omega (arith, c.if-to-len.false, c.len.ensures) in
    let one = get_there motes c.in-Some.next.to c.index.result.now within c.index.ensures in
    let two = get_there motes c.in-Some.next.to c.index-2.result.now within c.index-2.ensures in
    let same : c.index-2.result.now ≡ c.index.result.now = cc in
    let up : c.index-2.result.now.machine.is_halted ≡ false = rw same (sym c.if-halted.ensures) in
    let full : (length c.in-Some.next.bytes.now.items == 0) ≡ false = rw (← c.as_slice.ensures.value) (sym c.if-is_empty.ensures) in
    subst (λ (v : NetworkView). Outcome.Heard c.in-Some.next.to ≡ arriving v (arrival v.air)) c.self.view_is
    (heard_due (record {
      motes = motes;
      air = c.self.inside.medium;
      active = c.self.inside.active;
      started = c.self.inside.started;
      target = c.self.inside.target;
      bound = c.self.inside.bound;
      rounds = c.self.inside.rounds;
    })
    c.in-Some.next.due c.in-Some.next.from c.in-Some.next.to c.in-Some.next.bytes.now c.index-2.result.now two up full
    (omega (arith, c.if-clock.false, c.clock.ensures.value, c.clock-2.ensures.value)) c.in-Some.ensures.some)

pub returns-then-clock-clause-why : goal.returns-then-clock-clause-why
returns-then-clock-clause-why c =
    let net = c.args.self.now in
    let motes = c.self.inside.motes.items in
    let within : c.in-Some.next.to < length motes = omega (arith, c.if-to-len.false, c.len.ensures) in
    let one = get_there motes c.in-Some.next.to c.index.result.now within c.index.ensures in
    let two = get_there motes c.in-Some.next.to c.index-2.result.now within c.index-2.ensures in
    let same : c.index-2.result.now ≡ c.index.result.now = cc in
    let up : c.index-2.result.now.machine.is_halted ≡ false = rw same (sym c.if-halted.ensures) in
    let full : (length c.in-Some.next.bytes.now.items == 0) ≡ false = rw (← c.as_slice.ensures.value) (sym c.if-is_empty.ensures) in
    let due : arriving net (arrival net.air) ≡ Outcome.Woken c.in-Some.next.to =
    subst (λ (v : NetworkView). arriving v (arrival v.air) ≡ Outcome.Woken c.in-Some.next.to) c.self.view_is
    (woken_due (record {
      motes = motes;
      air = c.self.inside.medium;
      active = c.self.inside.active;
      started = c.self.inside.started;
      target = c.self.inside.target;
      bound = c.self.inside.bound;
      rounds = c.self.inside.rounds;
    })
    c.in-Some.next.due c.in-Some.next.from c.in-Some.next.to c.in-Some.next.bytes.now c.index-2.result.now two up full
    (omega (arith, c.if-clock.true, c.clock.ensures.value, c.clock-2.ensures.value)) c.in-Some.ensures.some) in
    let inside : length motes ≡ length net.motes = ap (λ (v : NetworkView). length v.motes) c.self.view_is in
    refused_due c.tell_time.result net (Outcome.Woken c.in-Some.next.to) due
    (refused_time c.tell_time.result net c.in-Some.next.to (omega (arith, within, inside)) c.tell_time.ensures.why)

pub returns-in_err-hand_frame_in-clause-why : goal.returns-in_err-hand_frame_in-clause-why
returns-in_err-hand_frame_in-clause-why c =
    let motes = c.self.inside.motes.items in
    let within : c.in-Some.next.to < length motes = omega (arith, c.if-to-len.false, c.len.ensures) in
    let one = get_there motes c.in-Some.next.to c.index.result.now within c.index.ensures in
    let two = get_there motes c.in-Some.next.to c.index-2.result.now within c.index-2.ensures in
    let same : c.index-2.result.now ≡ c.index.result.now = cc in
    let up : c.index-2.result.now.machine.is_halted ≡ false = rw same (sym c.if-halted.ensures) in
    let full : (length c.in-Some.next.bytes.now.items == 0) ≡ false = rw (← c.as_slice.ensures.value) (sym c.if-is_empty.ensures) in
    let net : NetworkView = record {
      motes = motes;
      air = c.self.inside.medium;
      active = c.self.inside.active;
      started = c.self.inside.started;
      target = c.self.inside.target;
      bound = c.self.inside.bound;
      rounds = c.self.inside.rounds;
    } in
    let due : Outcome.Heard c.in-Some.next.to ≡ arriving net (arrival net.air) =
    heard_due net c.in-Some.next.due c.in-Some.next.from c.in-Some.next.to c.in-Some.next.bytes.now c.index-2.result.now two up full
    (omega (arith, c.if-clock.false, c.clock.ensures.value, c.clock-2.ensures.value)) c.in-Some.ensures.some in
    subst (λ (v : NetworkView). IfErr c.from_residual.result (λ fault. outcome_refusal (arriving v (arrival v.air)) v ≡ Some fault)) c.self.view_is
    (refused_arrival c.from_residual.result net (Outcome.Heard c.in-Some.next.to) c.in_err-hand_frame_in.field-0.0 c.from_residual.ensures.1 (sym due)
    (frame_refused net c.in-Some.next.due c.in-Some.next.from c.in-Some.next.to c.in-Some.next.bytes.now c.in_err-hand_frame_in.field-0.0 within c.in-Some.ensures.some
    c.in_err-hand_frame_in.ensures.why))
