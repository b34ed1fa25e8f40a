-- What a network keeps true with each move.
use Rattle.std.proofs.Common.{◌≡◌, ◌≢◌, ℕ, ◌+◌, ◌<◌, ◌≤◌, ◌==◌, List, [], ◌∷◌, length, set, slice_get, refl, ap, sym, subst, ◌∙◌, arith, Bool, true, false, Option, Some, None, nat_lt, if◌then◌else◌}
use Rattle.std.proofs.lemmas.Bool.Decides.{nat_tests}
use Rattle.network_session.specs.Alarms.{earliest_by, earliest_in, first_alarm, first_come}
use Rattle.network_session.specs.declared.alarm.Alarm.{Alarm}
use Rattle.arrayvec.specs.ArrayVec.{ArrayVec}
use Rattle.kernel_core.specs.Machine.{Machine}
use Rattle.kernel_core.specs.Run.{is_at_rest, is_still}
use Rattle.medium_core.specs.Air.{Air, arrival, gone_on}
use Rattle.mote_session.specs.Sent.{sent_in}
use Rattle.mote_session.specs.SessionView.{SessionView}
use Rattle.mote_session.specs.Steps.{Advances}
use Rattle.mote_session.specs.declared.session.Next.{Next}
use Rattle.mote_types.specs.declared.call.Call.{Call}
use Rattle.mote_types.specs.declared.entry.Input.{Input}
use Rattle.network_session.specs.Network.{NetworkView, wakes_of}
use Rattle.network_session.specs.Schedule.{due_now, due_step, is_rest}
use Rattle.network_session.specs.Steps.{IsToldTime, Steps, Worked, active_after, aired, aired_if}
use Rattle.network_session.specs.Time.{KeepsTime}
use Rattle.network_session.specs.Waking.{due_ticks}
use Rattle.network_session.specs.declared.outcome.Outcome.{Outcome}
use Rattle.network_session.proofs.Logging.{get_other}
use Rattle.network_session.proofs.Timely.{fed_clock, landed_clock, none_at_work, not_waking, rests_up, timely_feed, timely_handed, timely_step, timely_submit, until_low, wake_beyond, wake_within}
use Rattle.network_session.proofs.Working.{there_after}
use Rattle.network_run.specs.Code.Ready.{AwaitsAtWork, IsReady, IsWithin, OthersAreStill, StaysWithin}
use Rattle.network_steps.specs.Code.Turns.{ends_open, is_turn, is_turn_step}
use Rattle.network_run.specs.NetworkRunText.{AwaitsNone, IsAtStart}
use Rattle.network_steps.specs.NetworkRuns.{DoesStep, IsMove, Leads, Move, after_move}

unlike : (o : Option ℕ) (i : ℕ) → o ≡ None → o ≡ Some i → ⊥
unlike o i none some = absurd (cc)

apart_from : (o : Option ℕ) (m i : ℕ) → o ≡ Some m → i ≢ m → o ≡ Some i → ⊥
apart_from o m i active other is = other (let e : ◌≡◌ {A = Option ℕ} (Some m) (Some i) = sym active ∙ is in cc)

-- one mote went on; the others are as they were
pub each_with : (P : ℕ → SessionView → Type 0) (old new : List SessionView) (m : ℕ) (before after : SessionView) → slice_get old m ≡ Some before →
    new ≡ set old m after → P m after → ((i : ℕ) (mote : SessionView) → i ≢ m → slice_get old i ≡ Some mote → P i mote) →
    (i : ℕ) (mote : SessionView) → slice_get new i ≡ Some mote → P i mote
each_with P old new m before after there is own others i mote here = by_test (i == m) refl
  where
    by_test : (b : Bool) → (i == m) ≡ b → P i mote
    by_test true e =
        let same : i ≡ m = grind (arith, nat_tests) in
        let present : slice_get new m ≡ Some after = there_after m old new before after there is in
        let one : mote ≡ after = let shown : slice_get new m ≡ Some mote = rw (← same) here in cc in
        rw (same, one) own
    by_test false e =
        let other : i ≢ m = grind (arith, nat_tests) in
        others i mote other (sym (get_other old i m after other) ∙ (ap (λ (l : List SessionView). slice_get l i) (sym is) ∙ here))

-- ---- the air's clock, and how far time goes

pub aired_clock : (m : ℕ) (next : Next) (mote : SessionView) (air : Air) → (aired m next mote air).clock ≡ air.clock
aired_clock m Next.Turn mote air = refl
aired_clock m Next.Rest mote air = refl
aired_clock m Next.Halted mote air = refl
aired_clock m Next.Entry mote air = by_option (sent_in mote.last)
  where
    by_option : (o : Option (ArrayVec ℕ)) → (aired_if m o air).clock ≡ air.clock
    by_option None = refl
    by_option (Some bytes) = refl

earliest_low : (limit : ℕ) (o : Option Alarm) → earliest_by limit o ≤ limit
earliest_low limit None = omega arith
earliest_low limit (Some alarm) = omega arith

gone_within : (target : ℕ) (wakes : List ℕ) (air : Air) → air.clock ≤ target → (gone_on (earliest_in target wakes) air).clock ≤ target
gone_within target wakes air within =
    let moment : ℕ = earliest_in target wakes in
    let low = earliest_low target (first_alarm 0 wakes) in
    let before = until_low air.flights moment in omega (arith, within, low, before)

-- ---- who awaits a call

pub none_awaits : (net : NetworkView) → AwaitsAtWork net → net.active ≡ None → AwaitsNone net
none_awaits net awaits idle m mote there = awaits m mote there (unlike net.active m idle)

same_await : (old new : NetworkView) → AwaitsNone old → new.motes ≡ old.motes → AwaitsNone new
same_await old new none same m mote there = none m mote (ap (λ (l : List SessionView). slice_get l m) (sym same) ∙ there)

-- mote m went on, and awaits none
with_await : (old new : NetworkView) (m : ℕ) (before after : SessionView) → slice_get old.motes m ≡ Some before → new.motes ≡ set old.motes m after →
    after.turn ≡ None → ((i : ℕ) (mote : SessionView) → i ≢ m → slice_get old.motes i ≡ Some mote → mote.turn ≡ None) → AwaitsNone new
with_await old new m before after there is closed others =
    each_with (λ (i : ℕ) (mote : SessionView). mote.turn ≡ None) old.motes new.motes m before after there is closed others

at_work_alone : (net : NetworkView) (m : ℕ) → AwaitsAtWork net → net.active ≡ Some m → (i : ℕ) (mote : SessionView) → i ≢ m →
    slice_get net.motes i ≡ Some mote → mote.turn ≡ None
at_work_alone net m awaits active i mote other there = awaits i mote there (apart_from net.active m i active other)

motes_of : {old new : NetworkView} → new ≡ old → new.motes ≡ old.motes
motes_of same = ap (λ (v : NetworkView). v.motes) same

step_awaits : (x : Outcome) (old new : NetworkView) → AwaitsAtWork old → DoesStep x old new → is_turn_step x ≡ false → AwaitsNone new
step_awaits (Outcome.Worked m Next.Turn) old new awaits does no_turn = absurd (cc)
step_awaits (Outcome.Started m) old new awaits does no_turn =
    same_await old new (none_awaits old awaits (none_at_work old.active does.work)) (ap (λ (v : NetworkView). v.motes) does.steps)
step_awaits (Outcome.Worked m Next.Entry) old new awaits does no_turn =
    let w = does.steps.worked in
    with_await old new m w.before w.after w.mote w.others w.advances.closed (at_work_alone old m awaits does.steps.was_active)
step_awaits (Outcome.Worked m Next.Rest) old new awaits does no_turn =
    let w = does.steps.worked in
    with_await old new m w.before w.after w.mote w.others w.advances.closed (at_work_alone old m awaits does.steps.was_active)
step_awaits (Outcome.Worked m Next.Halted) old new awaits does no_turn =
    let w = does.steps.worked in
    with_await old new m w.before w.after w.mote w.others w.advances.closed (at_work_alone old m awaits does.steps.was_active)
step_awaits (Outcome.Woken m) old new awaits does no_turn =
    let idle = none_at_work old.active does.work in
    let t = does.steps.told in
    with_await old new m t.before t.after t.mote t.others t.fed.closed (λ i mote other there. none_awaits old awaits idle i mote there)
step_awaits (Outcome.Heard m) old new awaits does no_turn =
    let idle = none_at_work old.active does.work in
    let t = does.steps.handed in
    with_await old new m t.before t.after t.mote t.others t.fed.closed (λ i mote other there. none_awaits old awaits idle i mote there)
step_awaits (Outcome.Missed from to) old new awaits does no_turn =
    same_await old new (none_awaits old awaits (none_at_work old.active does.work)) (ap (λ (v : NetworkView). v.motes) does.steps)
step_awaits Outcome.Clock old new awaits does no_turn =
    same_await old new (none_awaits old awaits (none_at_work old.active does.work)) (ap (λ (v : NetworkView). v.motes) does.steps)
step_awaits Outcome.Rest old new awaits does no_turn =
    same_await old new (none_awaits old awaits (none_at_work old.active does.work)) (ap (λ (v : NetworkView). v.motes) does.steps)
step_awaits Outcome.Exhausted old new awaits does no_turn =
    same_await old new (none_awaits old awaits (none_at_work old.active does.work)) (ap (λ (v : NetworkView). v.motes) does.steps)

-- after a move that is no turn, no mote awaits a call
move_awaits : (move : Move) (old : NetworkView) → AwaitsAtWork old → IsMove old move → is_turn move ≡ false → AwaitsNone (after_move move)
move_awaits (Move.Step x new) old awaits is no_turn = step_awaits x old new awaits is no_turn
move_awaits (Move.Submit call new) old awaits is no_turn =
    let s = is.submitted in
    with_await old new is.m s.before s.after s.mote s.others s.submitted.closed (at_work_alone old is.m awaits is.was_active)
move_awaits (Move.Tick ticks new) old awaits is no_turn =
    same_await old new (none_awaits old awaits is.rested.idle) (ap (λ (v : NetworkView). v.motes) is.result)
move_awaits (Move.Tell m new) old awaits is no_turn =
    let t = is.told.told in
    with_await old new m t.before t.after t.mote t.others t.fed.closed (λ i mote other there. none_awaits old awaits is.rested.idle i mote there)
move_awaits (Move.Hand m input new) old awaits is no_turn =
    let t = is.fed.handed in
    with_await old new m t.before t.after t.mote t.others t.fed.closed (λ i mote other there. none_awaits old awaits is.rested.idle i mote there)
move_awaits (Move.Miss m input new) old awaits is no_turn =
    same_await old new (none_awaits old awaits is.rested.idle) (ap (λ (v : NetworkView). v.motes) is.result)

-- a turn awaits its call at work
turn_awaits : (m : ℕ) (old new : NetworkView) → AwaitsAtWork old → Worked m Next.Turn old new → AwaitsAtWork new
turn_awaits m old new awaits w =
    let h = w.worked in
    let active : new.active ≡ Some m = ap (λ (v : NetworkView). v.active) w.result in
    each_with (λ (i : ℕ) (mote : SessionView). (new.active ≡ Some i → ⊥) → mote.turn ≡ None) old.motes new.motes m h.before h.after h.mote h.others
    (λ apart. absurd (apart active))
    (λ i mote other there apart. at_work_alone old m awaits w.was_active i mote other there)

awaits_by : (b : Bool) (move : Move) (old : NetworkView) → AwaitsAtWork old → IsMove old move → is_turn move ≡ b → AwaitsAtWork (after_move move)
awaits_by false move old awaits is no_turn = λ m mote there apart. move_awaits move old awaits is no_turn m mote there
awaits_by true (Move.Step (Outcome.Worked m Next.Turn) new) old awaits is turn = turn_awaits m old new awaits is.steps
awaits_by true (Move.Step (Outcome.Started m) new) old awaits is turn = absurd (cc)
awaits_by true (Move.Step (Outcome.Worked m Next.Entry) new) old awaits is turn = absurd (cc)
awaits_by true (Move.Step (Outcome.Worked m Next.Rest) new) old awaits is turn = absurd (cc)
awaits_by true (Move.Step (Outcome.Worked m Next.Halted) new) old awaits is turn = absurd (cc)
awaits_by true (Move.Step (Outcome.Woken m) new) old awaits is turn = absurd (cc)
awaits_by true (Move.Step (Outcome.Heard m) new) old awaits is turn = absurd (cc)
awaits_by true (Move.Step (Outcome.Missed from to) new) old awaits is turn = absurd (cc)
awaits_by true (Move.Step Outcome.Clock new) old awaits is turn = absurd (cc)
awaits_by true (Move.Step Outcome.Rest new) old awaits is turn = absurd (cc)
awaits_by true (Move.Step Outcome.Exhausted new) old awaits is turn = absurd (cc)
awaits_by true (Move.Submit call new) old awaits is turn = absurd (cc)
awaits_by true (Move.Tick ticks new) old awaits is turn = absurd (cc)
awaits_by true (Move.Tell m new) old awaits is turn = absurd (cc)
awaits_by true (Move.Hand m input new) old awaits is turn = absurd (cc)
awaits_by true (Move.Miss m input new) old awaits is turn = absurd (cc)

-- ---- who is still

-- after its work a mote is still, unless it is at work yet
worked_still : (next : Next) (m : ℕ) (before after : SessionView) → Advances next before after → (active_after m next ≡ Some m → ⊥) →
    is_still after.machine ≡ true
worked_still Next.Turn m before after advances apart = absurd (apart refl)
worked_still Next.Entry m before after advances apart = absurd (apart refl)
worked_still Next.Halted m before after advances apart = rw (advances.machine, advances.halted) refl
worked_still Next.Rest m before after advances apart =
    let rests = (advances.goes (λ p s. Call.Wait)).at_rest in by_halt after.machine.is_halted refl rests
  where
    by_halt : (b : Bool) → after.machine.is_halted ≡ b → is_at_rest after.machine ≡ true → is_still after.machine ≡ true
    by_halt true e rests = rw e refl
    by_halt false e rests = rw e (rw e at rests)

still_with : (old new : NetworkView) (m : ℕ) (before after : SessionView) → slice_get old.motes m ≡ Some before → new.motes ≡ set old.motes m after →
    new.started ≡ old.started → ((new.active ≡ Some m → ⊥) → is_still after.machine ≡ true) → ((i : ℕ) → i ≢ m → old.active ≡ Some i → ⊥) →
    OthersAreStill old → OthersAreStill new
still_with old new m before after there is started own others still =
    each_with (λ (i : ℕ) (mote : SessionView). i < new.started → (new.active ≡ Some i → ⊥) → is_still mote.machine ≡ true)
    old.motes new.motes m before after there is (λ less apart. own apart)
    (λ i mote other here less apart. still i mote here (omega (arith, less, started)) (others i other))

still_handed : (old new : NetworkView) (m : ℕ) (before after : SessionView) → slice_get old.motes m ≡ Some before → new.motes ≡ set old.motes m after →
    new.started ≡ old.started → new.active ≡ Some m → old.active ≡ None → OthersAreStill old → OthersAreStill new
still_handed old new m before after there is started active idle still =
    still_with old new m before after there is started (λ apart. absurd (apart active)) (λ i other. unlike old.active i idle) still

still_worked : (next : Next) (m : ℕ) (old new : NetworkView) → Worked m next old new → OthersAreStill old → OthersAreStill new
still_worked next m old new w still =
    let h = w.worked in
    let active : new.active ≡ active_after m next = ap (λ (v : NetworkView). v.active) w.result in
    still_with old new m h.before h.after h.mote h.others (ap (λ (v : NetworkView). v.started) w.result)
    (λ apart. worked_still next m h.before h.after h.advances (λ is. apart (active ∙ is)))
    (λ i other. apart_from old.active m i w.was_active other) still

still_same : (old new : NetworkView) → new.motes ≡ old.motes → new.started ≡ old.started → new.active ≡ old.active → OthersAreStill old →
    OthersAreStill new
still_same old new motes started active still m mote there less apart =
    still m mote (ap (λ (l : List SessionView). slice_get l m) (sym motes) ∙ there) (omega (arith, less, started)) (λ is. apart (active ∙ is))

started_is : (net : NetworkView) (m : ℕ) → Outcome.Started m ≡ due_step net → m ≡ net.started
started_is net m h = by_tests (nat_lt net.started (length net.motes)) (net.rounds == 0) (is_rest (due_now net)) h
  where
    by_tests : (s r t : Bool) →
        Outcome.Started m ≡ (if s then Outcome.Started net.started else if r then (if t then Outcome.Rest else Outcome.Exhausted) else due_now net) → m ≡ net.started
    by_tests true r t e = cc
    by_tests false true true e = absurd (cc)
    by_tests false true false e = absurd (cc)
    by_tests false false t e = absurd (not_waking net m (first_come net.air.clock (wakes_of net.motes)) e)

below : (i m : ℕ) → i < m + 1 → i ≢ m → i < m
below i m less other = by_test (nat_lt i m) refl
  where
    by_test : (b : Bool) → nat_lt i m ≡ b → i < m
    by_test true e = grind (arith, nat_tests)
    by_test false e = let high : m ≤ i = grind (arith, nat_tests) in absurd (other (omega (arith, less, high)))

still_started : (old new : NetworkView) (m : ℕ) → m ≡ old.started → new ≡ record old { active = Some m; started = m + 1 } → old.active ≡ None →
    OthersAreStill old → OthersAreStill new
still_started old new m is result idle still i mote there less apart =
    let active : new.active ≡ Some m = ap (λ (v : NetworkView). v.active) result in
    let started : new.started ≡ m + 1 = ap (λ (v : NetworkView). v.started) result in
    let there_before : slice_get old.motes i ≡ Some mote = ap (λ (v : NetworkView). slice_get v.motes i) (sym result) ∙ there in
    let other : i ≢ m = λ same. apart (active ∙ ap Some (sym same)) in
    let lower : i < m = below i m (rw (← started) less) other in
    still i mote there_before (omega (arith, lower, is)) (unlike old.active i idle)

-- ---- each move

abbrev Kept : NetworkView → Type 0
Kept net = OthersAreStill net × (net.air.clock ≤ net.target)

worked_ready : (next : Next) (m : ℕ) (old new : NetworkView) → IsReady old → Worked m next old new → Kept new
worked_ready next m old new ready w =
    let clock : new.air.clock ≡ old.air.clock = ap (λ (v : NetworkView). v.air.clock) w.result ∙ aired_clock m next w.worked.after old.air in
    let target : new.target ≡ old.target = ap (λ (v : NetworkView). v.target) w.result in (
      still_worked next m old new w ready.still,
      omega (arith, clock, target, ready.within),
    )

told_ready : (m : ℕ) (old new : NetworkView) → IsReady old → old.active ≡ None → IsToldTime m old new → Kept new
told_ready m old new ready idle s =
    let t = s.told in
    let clock : new.air.clock ≡ old.air.clock = ap (λ (v : NetworkView). v.air.clock) s.result in
    let target : new.target ≡ old.target = ap (λ (v : NetworkView). v.target) s.result in (
      still_handed old new m t.before t.after t.mote t.others (ap (λ (v : NetworkView). v.started) s.result) (ap (λ (v : NetworkView). v.active) s.result)
          idle ready.still,
      omega (arith, clock, target, ready.within),
    )

step_ready : (x : Outcome) (old new : NetworkView) → IsReady old → DoesStep x old new → Kept new
step_ready (Outcome.Started m) old new ready does =
    let idle = none_at_work old.active does.work in (
      still_started old new m (started_is old m (does.due idle)) does.steps idle ready.still,
      rw does.steps ready.within,
    )
step_ready (Outcome.Worked m next) old new ready does = worked_ready next m old new ready does.steps
step_ready (Outcome.Woken m) old new ready does = told_ready m old new ready (none_at_work old.active does.work) does.steps
step_ready (Outcome.Heard m) old new ready does =
    let idle = none_at_work old.active does.work in
    let s = does.steps in
    let t = s.handed in
    let clock : new.air.clock ≡ old.air.clock = ap (λ (v : NetworkView). v.air.clock) s.result ∙ landed_clock (arrival old.air) old.air in
    let target : new.target ≡ old.target = ap (λ (v : NetworkView). v.target) s.result in (
      still_handed old new m t.before t.after t.mote t.others (ap (λ (v : NetworkView). v.started) s.result) (ap (λ (v : NetworkView). v.active) s.result)
          idle ready.still,
      omega (arith, clock, target, ready.within),
    )
step_ready (Outcome.Missed from to) old new ready does =
    let s = does.steps in
    let clock : new.air.clock ≡ old.air.clock = ap (λ (v : NetworkView). v.air.clock) s ∙ landed_clock (arrival old.air) old.air in
    let target : new.target ≡ old.target = ap (λ (v : NetworkView). v.target) s in (
      still_same old new (ap (λ (v : NetworkView). v.motes) s) (ap (λ (v : NetworkView). v.started) s) (ap (λ (v : NetworkView). v.active) s) ready.still,
      omega (arith, clock, target, ready.within),
    )
step_ready Outcome.Clock old new ready does =
    let s = does.steps in
    let clock : new.air.clock ≡ (gone_on (earliest_in old.target (wakes_of old.motes)) old.air).clock = ap (λ (v : NetworkView). v.air.clock) s in
    let low = gone_within old.target (wakes_of old.motes) old.air ready.within in
    let target : new.target ≡ old.target = ap (λ (v : NetworkView). v.target) s in (
      still_same old new (ap (λ (v : NetworkView). v.motes) s) (ap (λ (v : NetworkView). v.started) s) (ap (λ (v : NetworkView). v.active) s) ready.still,
      rw (clock, target) low,
    )
step_ready Outcome.Rest old new ready does = rw does.steps (ready.still, ready.within)
step_ready Outcome.Exhausted old new ready does = rw does.steps (ready.still, ready.within)

-- a mote that is told the time has the network's
told_time : (m : ℕ) (old new : NetworkView) → KeepsTime old → old.active ≡ None → IsToldTime m old new → KeepsTime new
told_time m old new time idle s =
    let h = s.told in
    let t = time m h.before h.mote in
    let up = rests_up h.before h.rested in
    let awake = t.awake up (unlike old.active m idle) in
    let far = wake_within h.before.machine up in
    let clock : h.after.machine.clock ≡ h.before.machine.clock + due_ticks old.air.clock h.before.machine.clock =
    ap (λ (x : Machine). x.clock) h.fed.machine ∙ fed_clock (Input.Tick (due_ticks old.air.clock h.before.machine.clock)) h.before.machine in
    timely_handed m old new h.before h.after time idle h.mote h.others (omega (arith, clock, awake, far, t.not_ahead))
    (ap (λ (v : NetworkView). v.air.clock) s.result) (ap (λ (v : NetworkView). v.active) s.result) (ap (λ (v : NetworkView). v.started) s.result)

move_kept : (move : Move) (old : NetworkView) → IsReady old → IsMove old move → Kept (after_move move)
move_kept (Move.Step x new) old ready is = step_ready x old new ready is
move_kept (Move.Submit call new) old ready is =
    let s = is.submitted in
    let active : new.active ≡ old.active = ap (λ (v : NetworkView). v.active) is.result in
    let clock : new.air.clock ≡ old.air.clock = ap (λ (v : NetworkView). v.air.clock) is.result in
    let target : new.target ≡ old.target = ap (λ (v : NetworkView). v.target) is.result in (
      still_with old new is.m s.before s.after s.mote s.others (ap (λ (v : NetworkView). v.started) is.result)
          (λ apart. absurd (apart (active ∙ is.was_active))) (λ i other. apart_from old.active is.m i is.was_active other) ready.still,
      omega (arith, clock, target, ready.within),
    )
move_kept (Move.Tick ticks new) old ready is =
    let clock : new.air.clock ≡ old.air.clock = ap (λ (v : NetworkView). v.air.clock) is.result in
    let target : new.target ≡ old.target + ticks = ap (λ (v : NetworkView). v.target) is.result in (
      still_same old new (ap (λ (v : NetworkView). v.motes) is.result) (ap (λ (v : NetworkView). v.started) is.result)
          (ap (λ (v : NetworkView). v.active) is.result) ready.still,
      omega (arith, clock, target, ready.within),
    )
move_kept (Move.Tell m new) old ready is = told_ready m old new ready is.rested.idle is.told
move_kept (Move.Hand m input new) old ready is =
    let s = is.fed in
    let t = s.handed in
    let clock : new.air.clock ≡ old.air.clock = ap (λ (v : NetworkView). v.air.clock) s.result in
    let target : new.target ≡ old.target = ap (λ (v : NetworkView). v.target) s.result in (
      still_handed old new m t.before t.after t.mote t.others (ap (λ (v : NetworkView). v.started) s.result) (ap (λ (v : NetworkView). v.active) s.result)
          s.was_active ready.still,
      omega (arith, clock, target, ready.within),
    )
move_kept (Move.Miss m input new) old ready is = rw is.result (ready.still, ready.within)

move_time : (move : Move) (old : NetworkView) → KeepsTime old → IsMove old move → KeepsTime (after_move move)
move_time (Move.Step x new) old time is = timely_step x old new time is.steps is.due is.work
move_time (Move.Submit call new) old time is = timely_submit call old new time is
move_time (Move.Tick ticks new) old time is = rw is.result time
move_time (Move.Tell m new) old time is = told_time m old new time is.rested.idle is.told
move_time (Move.Hand m input new) old time is = timely_feed m input old new time is.fed
move_time (Move.Miss m input new) old time is = rw is.result time

pub move_ready : (move : Move) (old : NetworkView) → IsReady old → IsMove old move → IsReady (after_move move)
move_ready move old ready is =
    let kept = move_kept move old ready is in
    record {
      time = move_time move old ready.time is;
      within = kept.1;
      still = kept.0;
      awaits = awaits_by (is_turn move) move old ready.awaits is refl;
    }

-- ---- how far time may go

step_target : (x : Outcome) (old new : NetworkView) → Steps x old new → new.target ≡ old.target
step_target (Outcome.Started m) old new s = ap (λ (v : NetworkView). v.target) s
step_target (Outcome.Worked m next) old new s = ap (λ (v : NetworkView). v.target) s.result
step_target (Outcome.Woken m) old new s = ap (λ (v : NetworkView). v.target) s.result
step_target (Outcome.Heard m) old new s = ap (λ (v : NetworkView). v.target) s.result
step_target (Outcome.Missed from to) old new s = ap (λ (v : NetworkView). v.target) s
step_target Outcome.Clock old new s = ap (λ (v : NetworkView). v.target) s
step_target Outcome.Rest old new s = ap (λ (v : NetworkView). v.target) s
step_target Outcome.Exhausted old new s = ap (λ (v : NetworkView). v.target) s

same_target : (old new : NetworkView) → new.target ≡ old.target → IsWithin old → IsWithin new
same_target old new same within = omega (arith, same, within)

pub move_within : (move : Move) (old : NetworkView) → IsMove old move → StaysWithin old move → IsWithin old → IsWithin (after_move move)
move_within (Move.Step x new) old is stays within = same_target old new (step_target x old new is.steps) within
move_within (Move.Submit call new) old is stays within = same_target old new (ap (λ (v : NetworkView). v.target) is.result) within
move_within (Move.Tick ticks new) old is stays within =
    let target : new.target ≡ old.target + ticks = ap (λ (v : NetworkView). v.target) is.result in omega (arith, target, stays)
move_within (Move.Tell m new) old is stays within = same_target old new (ap (λ (v : NetworkView). v.target) is.told.result) within
move_within (Move.Hand m input new) old is stays within = same_target old new (ap (λ (v : NetworkView). v.target) is.fed.result) within
move_within (Move.Miss m input new) old is stays within = same_target old new (ap (λ (v : NetworkView). v.target) is.result) within

pub leads_ready : (moves : List Move) (old new : NetworkView) → IsReady old → Leads old moves new → IsReady new
leads_ready [] old new ready leads = subst IsReady leads ready
leads_ready (move ∷ moves) old new ready leads = leads_ready moves (after_move move) new (move_ready move old ready leads.0) leads.1

-- where the last move is no turn, no mote awaits a call
after_last : (move : Move) (moves : List Move) (old new : NetworkView) → AwaitsAtWork old → Leads old (move ∷ moves) new →
    ends_open (move ∷ moves) ≡ false → AwaitsNone new
after_last move [] old new awaits leads closed = subst AwaitsNone leads.1 (move_awaits move old awaits leads.0 closed)
after_last move (next ∷ moves) old new awaits leads closed =
    after_last next moves (after_move move) new (awaits_by (is_turn move) move old awaits leads.0 refl) leads.1 closed

pub leads_awaits : (moves : List Move) (old new : NetworkView) → AwaitsNone old → Leads old moves new → ends_open moves ≡ false → AwaitsNone new
leads_awaits [] old new none leads closed = subst AwaitsNone leads none
leads_awaits (move ∷ moves) old new none leads closed = after_last move moves old new (λ m mote there apart. none m mote there) leads closed

-- a network whose motes have just booted
pub start_ready : (net : NetworkView) → IsAtStart net → IsReady net
start_ready net start = record {
  time = λ m mote there.
      let same = start.on_time m mote there in
      record {
        not_ahead = omega (arith, same);
        at_work = λ e. same;
        fresh = λ e. same;
        awake = λ up e. let low = wake_beyond mote.machine up in omega (arith, same, low);
      };
  within = start.within;
  still = λ m mote there less apart. absurd (omega (arith, less, start.none_started));
  awaits = λ m mote there apart. start.awaits m mote there;
}
