-- Each mote is told in time.
use Rattle.std.proofs.Common.{◌≡◌, ◌≢◌, ℕ, zero, suc, ◌+◌, ◌-◌, ◌<◌, ◌≤◌, ◌==◌, ◌||◌, ◌&&◌, not, List, [], ◌∷◌, min, length, set, slice_get, refl, ap, sym, subst, ◌∙◌, arith, Bool, true, false, Option, Some, None, is_some, is_none, nat_le, nat_lt, if◌then◌else◌}
use Rattle.std.proofs.lemmas.Bool.Decides.{nat_tests}
use Rattle.network_session.specs.Alarms.{earliest_by, earliest_in, first_alarm, first_come, sooner}
use Rattle.network_session.specs.declared.alarm.Alarm.{Alarm}
use Rattle.arrayvec.specs.ArrayVec.{ArrayVec}
use Rattle.kernel_core.specs.Code.Conditions.{ticks_of}
use Rattle.kernel_core.specs.Inputs.{fed, frame_held, frame_refusal, held_unless_lost}
use Rattle.mote_types.specs.declared.refusal.Refusal.{Refusal}
use Rattle.device_core.specs.PacketQueue.{free_slot}
use Rattle.process_core.specs.Idle.{is_idle}
use Rattle.kernel_core.specs.Machine.{Machine, booted}
use Rattle.kernel_core.specs.declared.config.Config.{Config}
use Rattle.medium_core.specs.Air.{Air, arrival, gone_on, landed, still_air, until, without}
use Rattle.medium_core.specs.declared.flight.Flight.{Flight}
use Rattle.medium_core.specs.declared.link.Link.{Link}
use Rattle.mote_session.specs.Sent.{sent_in}
use Rattle.mote_session.specs.SessionView.{SessionView, rests}
use Rattle.mote_session.specs.declared.session.Next.{Next}
use Rattle.mote_types.specs.declared.call.Call.{Call}
use Rattle.mote_types.specs.declared.entry.Input.{Input}
use Rattle.timer_core.specs.Deadlines.{earlier_of, next_deadline}
use Rattle.network_session.specs.Network.{NetworkView, wakes_of}
use Rattle.network_session.specs.Schedule.{arriving, due_now, due_step, hearing, is_rest, waking}
use Rattle.network_session.specs.Steps.{IsNetworkSubmitted, IsNetworkFed, Steps, Worked, active_after, aired, aired_if, is_work}
use Rattle.network_session.specs.Time.{IsTimely, KeepsTime}
use Rattle.network_session.specs.Waking.{due_ticks, wake}
use Rattle.network_session.specs.declared.outcome.Outcome.{Outcome}
use Rattle.network_session.proofs.Due.{due_is}
use Rattle.network_session.proofs.Logging.{get_other}
use Rattle.network_session.proofs.Working.{there_after}

-- a mote's moment comes later than its clock, and not too late

earlier_low : (n : ℕ) (o : Option ℕ) → earlier_of n o ≤ n
earlier_low n None = omega arith
earlier_low n (Some k) = omega arith

pub wake_beyond : (m : Machine) → m.is_halted ≡ false → m.clock ≤ wake m
wake_beyond m up = rw up (omega arith)

pub wake_within : (m : Machine) → m.is_halted ≡ false → wake m ≤ m.clock + 4294967295
wake_within m up =
    let low = earlier_low (m.clock + 4294967295) (next_deadline m.timers) in
    rw up (omega (arith, low))

-- the clock of a mote that is handed an input

held_clock : (o : Option ℕ) (bytes : List ℕ) (m : Machine) → (frame_held o bytes m).clock ≡ m.clock
held_clock None bytes m = refl
held_clock (Some slot) bytes m = refl

frame_clock : (r : Option Refusal) (bytes : List ℕ) (m : Machine) → (held_unless_lost r bytes m).clock ≡ m.clock
frame_clock (Some refusal) bytes m = refl
frame_clock None bytes m = held_clock (free_slot m.packets) bytes m

pub fed_clock : (input : Input) (m : Machine) → (fed input m).clock ≡ m.clock + ticks_of input
fed_clock (Input.Tick n) m = refl
fed_clock (Input.Serial bytes) m = omega arith
fed_clock (Input.Frame bytes) m =
    let begun : Machine = record m { work = 0 } in
    let kept : (held_unless_lost (frame_refusal (length bytes.items) begun) bytes.items begun).clock ≡ m.clock =
    frame_clock (frame_refusal (length bytes.items) begun) bytes.items begun in
    kept ∙ omega arith

parted : (a b c : Bool) → (a && (not b && c)) ≡ true → b ≡ false
parted true false c h = refl
parted true true c h = absurd (cc)
parted false b c h = absurd (cc)

pub rests_up : (s : SessionView) → rests s ≡ true → s.machine.is_halted ≡ false
rests_up s h = parted (is_none s.turn) s.machine.is_halted (is_idle s.machine.scheduler) h

-- the earliest moment is no later than each

sooner_low : (a : Alarm) (o : Option Alarm) → (sooner a o).moment ≤ a.moment
sooner_low a None = omega arith
sooner_low a (Some b) = by_test (nat_le a.moment b.moment) refl
  where
    by_test : (t : Bool) → nat_le a.moment b.moment ≡ t → (if t then a else b).moment ≤ a.moment
    by_test true e = omega arith
    by_test false e = grind (arith, nat_tests)

sooner_other : (limit : ℕ) (a : Alarm) (o : Option Alarm) → min (sooner a o).moment limit ≤ earliest_by limit o
sooner_other limit a None = omega arith
sooner_other limit a (Some b) = by_test (nat_le a.moment b.moment) refl
  where
    by_test : (t : Bool) → nat_le a.moment b.moment ≡ t → min (if t then a else b).moment limit ≤ min b.moment limit
    by_test true e = let low : a.moment ≤ b.moment = grind (arith, nat_tests) in omega (arith, low)
    by_test false e = omega arith

earliest_from : (limit i : ℕ) (motes : List SessionView) (m : ℕ) (mote : SessionView) → slice_get motes m ≡ Some mote →
    earliest_by limit (first_alarm i (wakes_of motes)) ≤ wake mote.machine
earliest_from limit i [] m mote h = absurd (cc)
earliest_from limit i (x ∷ motes) zero mote h =
    let same : x ≡ mote = cc in
    let low = sooner_low (record { moment = wake x.machine; owner = i }) (first_alarm (i + 1) (wakes_of motes)) in
    rw (← same) (omega (arith, low))
earliest_from limit i (x ∷ motes) (suc m) mote h =
    let rest = earliest_from limit (i + 1) motes m mote h in
    let low = sooner_other limit (record { moment = wake x.machine; owner = i }) (first_alarm (i + 1) (wakes_of motes)) in
    omega (arith, rest, low)

pub earliest_each : (limit : ℕ) (motes : List SessionView) (m : ℕ) (mote : SessionView) → slice_get motes m ≡ Some mote →
    earliest_in limit (wakes_of motes) ≤ wake mote.machine
earliest_each limit motes m mote h = earliest_from limit 0 motes m mote h

-- the air's clock

aired_clock : (m : ℕ) (next : Next) (mote : SessionView) (air : Air) → (aired m next mote air).clock ≡ air.clock
aired_clock m Next.Turn mote air = refl
aired_clock m Next.Rest mote air = refl
aired_clock m Next.Halted mote air = refl
aired_clock m Next.Entry mote air = by_option (sent_in mote.last)
  where
    by_option : (o : Option (ArrayVec ℕ)) → (aired_if m o air).clock ≡ air.clock
    by_option None = refl
    by_option (Some bytes) = refl

pub landed_clock : (o : Option Flight) (air : Air) → (without o air).clock ≡ air.clock
landed_clock None air = refl
landed_clock (Some f) air = refl

pub until_low : (flights : List Flight) (moment : ℕ) → until flights moment ≤ moment
until_low [] moment = omega arith
until_low (f ∷ flights) moment = omega arith

-- who works

not_active : (next : Next) (m i : ℕ) → i ≢ m → active_after m next ≡ Some i → ⊥
not_active Next.Turn m i other h = other (let e = h in cc)
not_active Next.Entry m i other h = other (let e = h in cc)
not_active Next.Rest m i other h = absurd (cc)
not_active Next.Halted m i other h = absurd (cc)

pub none_at_work : (o : Option ℕ) → false ≡ is_some o → o ≡ None
none_at_work None h = refl
none_at_work (Some m) h = absurd (cc)

-- one mote went on; the others keep what they have
timely_with : (old new : NetworkView) (m : ℕ) (before after : SessionView) → KeepsTime old →
    slice_get old.motes m ≡ Some before → new.motes ≡ set old.motes m after →
    IsTimely new.air.clock new.active new.started m after →
    ((i : ℕ) (mote : SessionView) → i ≢ m → IsTimely old.air.clock old.active old.started i mote → IsTimely new.air.clock new.active new.started i mote) →
    KeepsTime new
timely_with old new m before after all there is own others i mote here = by_test (i == m) refl
  where
    by_test : (b : Bool) → (i == m) ≡ b → IsTimely new.air.clock new.active new.started i mote
    by_test true e =
        let same : i ≡ m = grind (arith, nat_tests) in
        let present : slice_get new.motes m ≡ Some after = there_after m old.motes new.motes before after there is in
        let one : mote ≡ after = let shown : slice_get new.motes m ≡ Some mote = rw (← same) here in cc in
        rw (same, one) own
    by_test false e =
        let other : i ≢ m = grind (arith, nat_tests) in
        others i mote other (all i mote (sym (get_other old.motes i m after other) ∙ (ap (λ (l : List SessionView). slice_get l i) (sym is) ∙ here)))

pub timely_worked : (m : ℕ) (next : Next) (old new : NetworkView) → KeepsTime old → Worked m next old new → KeepsTime new
timely_worked m next old new all w =
    let h = w.worked in
    let was = all m h.before h.mote in
    let air : new.air.clock ≡ old.air.clock = ap (λ (v : NetworkView). v.air.clock) w.result ∙ aired_clock m next h.after old.air in
    let active : new.active ≡ active_after m next = ap (λ (v : NetworkView). v.active) w.result in
    let started : new.started ≡ old.started = ap (λ (v : NetworkView). v.started) w.result in
    let now : h.after.machine.clock ≡ new.air.clock = h.same.1 ∙ (was.at_work w.was_active ∙ sym air) in
    timely_with old new m h.before h.after all h.mote h.others
    (record {
      not_ahead = omega (arith, now);
      at_work = λ e. now;
      fresh = λ e. now;
      awake = λ up e. omega (arith, now, wake_beyond h.after.machine up);
    })
    (λ i mote other t. record {
      not_ahead = omega (arith, air, t.not_ahead);
      at_work = λ e. absurd (not_active next m i other (sym active ∙ e));
      fresh = λ e. t.fresh (omega (arith, e, started)) ∙ sym air;
      awake = λ up e. let before = t.awake up (λ was_i. other (let x = was_i in let y = w.was_active in cc)) in omega (arith, air, before);
    })

-- a mote is handed an input, and is at work from then on
pub timely_handed : (m : ℕ) (old new : NetworkView) (before after : SessionView) → KeepsTime old → old.active ≡ None →
    slice_get old.motes m ≡ Some before → new.motes ≡ set old.motes m after → after.machine.clock ≡ old.air.clock →
    new.air.clock ≡ old.air.clock → new.active ≡ Some m → new.started ≡ old.started → KeepsTime new
timely_handed m old new before after all idle there is now air active started =
    timely_with old new m before after all there is
    (record {
      not_ahead = omega (arith, now, air);
      at_work = λ e. now ∙ sym air;
      fresh = λ e. now ∙ sym air;
      awake = λ up e. absurd (e active);
    })
    (λ i mote other t. record {
      not_ahead = omega (arith, air, t.not_ahead);
      at_work = λ e. absurd (other (let x = e in let y = active in cc));
      fresh = λ e. t.fresh (omega (arith, e, started)) ∙ sym air;
      awake = λ up e. let before = t.awake up (λ was_i. let x = was_i in let y = idle in absurd (cc)) in omega (arith, air, before);
    })

-- what a step says of when it is due

hearing_time : (clock m : ℕ) (f : Flight) (mote : SessionView) → Outcome.Heard m ≡ hearing clock f (Some mote) → clock ≤ mote.machine.clock
hearing_time clock m f mote h = by_tests (mote.machine.is_halted || length f.bytes.items == 0) (nat_lt mote.machine.clock clock) refl h
  where
    by_tests : (a b : Bool) → nat_lt mote.machine.clock clock ≡ b →
        Outcome.Heard m ≡ (if a then Outcome.Missed f.from f.to else if b then Outcome.Woken f.to else Outcome.Heard f.to) → clock ≤ mote.machine.clock
    by_tests true b e h = absurd (cc)
    by_tests false true e h = absurd (cc)
    by_tests false false e h = grind (arith, nat_tests)

waking_hears : (net : NetworkView) (m : ℕ) (o : Option ℕ) → Outcome.Heard m ≡ waking net o → Outcome.Heard m ≡ arriving net (arrival net.air)
waking_hears net m None h = h
waking_hears net m (Some k) h = absurd (cc)

heard_time : (net : NetworkView) (m : ℕ) (f : Flight) (mote : SessionView) → Outcome.Heard m ≡ due_step net → arrival net.air ≡ Some f → f.to ≡ m →
    slice_get net.motes m ≡ Some mote → net.air.clock ≤ mote.machine.clock
heard_time net m f mote h arrives is there =
    let now = due_is net (Outcome.Heard m) refl h in
    let arriving_now : Outcome.Heard m ≡ arriving net (arrival net.air) = waking_hears net m (first_come net.air.clock (wakes_of net.motes)) now.due in
    let one : arriving net (arrival net.air) ≡ hearing net.air.clock f (slice_get net.motes f.to) = ap (arriving net) arrives in
    let two : hearing net.air.clock f (slice_get net.motes f.to) ≡ hearing net.air.clock f (Some mote) =
    ap (λ (i : ℕ). hearing net.air.clock f (slice_get net.motes i)) is ∙ ap (hearing net.air.clock f) there in
    hearing_time net.air.clock m f mote (arriving_now ∙ (one ∙ two))

clock_started : (net : NetworkView) → Outcome.Clock ≡ due_step net → length net.motes ≤ net.started
clock_started net h = (due_is net Outcome.Clock refl h).all_started

not_passing : (net : NetworkView) (m : ℕ) (b : Bool) → Outcome.Started m ≡ (if b then Outcome.Clock else Outcome.Rest) → ⊥
not_passing net m true h = absurd (cc)
not_passing net m false h = absurd (cc)

not_hearing : (clock m : ℕ) (f : Flight) (o : Option SessionView) → Outcome.Started m ≡ hearing clock f o → ⊥
not_hearing clock m f None h = absurd (cc)
not_hearing clock m f (Some mote) h = by_tests (mote.machine.is_halted || length f.bytes.items == 0) (nat_lt mote.machine.clock clock) h
  where
    by_tests : (a b : Bool) → Outcome.Started m ≡ (if a then Outcome.Missed f.from f.to else if b then Outcome.Woken f.to else Outcome.Heard f.to) → ⊥
    by_tests true b h = absurd (cc)
    by_tests false true h = absurd (cc)
    by_tests false false h = absurd (cc)

not_arriving : (net : NetworkView) (m : ℕ) (o : Option Flight) → Outcome.Started m ≡ arriving net o → ⊥
not_arriving net m None h = not_passing net m (nat_lt net.air.clock net.target) h
not_arriving net m (Some f) h = not_hearing net.air.clock m f (slice_get net.motes f.to) h

pub not_waking : (net : NetworkView) (m : ℕ) (o : Option ℕ) → Outcome.Started m ≡ waking net o → ⊥
not_waking net m None h = not_arriving net m (arrival net.air) h
not_waking net m (Some k) h = absurd (cc)

started_is : (net : NetworkView) (m : ℕ) → Outcome.Started m ≡ due_step net → m ≡ net.started
started_is net m h = by_tests (nat_lt net.started (length net.motes)) (net.rounds == 0) (is_rest (due_now net)) h
  where
    by_tests : (s r t : Bool) →
        Outcome.Started m ≡ (if s then Outcome.Started net.started else if r then (if t then Outcome.Rest else Outcome.Exhausted) else due_now net) → m ≡ net.started
    by_tests true r t e = cc
    by_tests false true true e = absurd (cc)
    by_tests false true false e = absurd (cc)
    by_tests false false t e = absurd (not_waking net m (first_come net.air.clock (wakes_of net.motes)) e)

within : {X : Type 0} (xs : List X) (m : ℕ) (x : X) → slice_get xs m ≡ Some x → m < length xs
within [] m x h = absurd (cc)
within (z ∷ xs) zero x h = omega arith
within (z ∷ xs) (suc m) x h = let less = within xs m x h in omega (arith, less)

unlike : (o : Option ℕ) (i : ℕ) → o ≡ None → o ≡ Some i → ⊥
unlike o i none some = absurd (cc)

-- the steps

pub timely_booted : (configs : ℕ → Config) (room : ℕ) (links : List (List Link)) (net : NetworkView) →
    ((m : ℕ) (mote : SessionView) → slice_get net.motes m ≡ Some mote → mote.machine ≡ booted (configs m)) → net.air ≡ still_air room links → KeepsTime net
timely_booted configs room links net each air m mote there =
    let clock : mote.machine.clock ≡ 0 = ap (λ (x : Machine). x.clock) (each m mote there) in
    let now : net.air.clock ≡ 0 = ap (λ (a : Air). a.clock) air in
    record { not_ahead = omega (arith, clock, now); at_work = λ e. clock ∙ sym now; fresh = λ e. clock ∙ sym now; awake = λ up e. omega (arith, now) }

timely_started : (m : ℕ) (old new : NetworkView) → KeepsTime old → old.active ≡ None → m ≡ old.started → new ≡ record old { active = Some m; started = m + 1 } →
    KeepsTime new
timely_started m old new all idle is e = rw e (λ i mote there.
    let t = all i mote there in
    record {
      not_ahead = t.not_ahead;
      at_work = λ h. let same : m ≡ i = cc in t.fresh (omega (arith, same, is));
      fresh = λ h. t.fresh (omega (arith, h, is));
      awake = λ up h. t.awake up (unlike old.active i idle);
    })

timely_clock : (old new : NetworkView) → KeepsTime old → old.active ≡ None → length old.motes ≤ old.started →
    new ≡ record old { air = gone_on (earliest_in old.target (wakes_of old.motes)) old.air; rounds = old.rounds - 1 } → KeepsTime new
timely_clock old new all idle started e = rw e (λ i mote there.
    let t = all i mote there in
    let moment : ℕ = earliest_in old.target (wakes_of old.motes) in
    let low = until_low old.air.flights moment in
    let each = earliest_each old.target old.motes i mote there in
    record {
      not_ahead = omega (arith, t.not_ahead);
      at_work = λ h. absurd (unlike old.active i idle h);
      fresh = λ h. absurd (let less = within old.motes i mote there in omega (arith, less, started, h));
      awake = λ up h. let before = t.awake up (unlike old.active i idle) in omega (arith, before, low, each);
    })

timely_missed : (old new : NetworkView) → KeepsTime old → new ≡ record old { air = landed old.air; rounds = old.rounds - 1 } → KeepsTime new
timely_missed old new all e = rw e (λ i mote there.
    let t = all i mote there in
    let clock = landed_clock (arrival old.air) old.air in
    record {
      not_ahead = omega (arith, t.not_ahead, clock);
      at_work = λ h. t.at_work h ∙ sym clock;
      fresh = λ h. t.fresh h ∙ sym clock;
      awake = λ up h. let before = t.awake up h in omega (arith, before, clock);
    })

pub timely_step : (outcome : Outcome) (old new : NetworkView) → KeepsTime old → Steps outcome old new →
    (old.active ≡ None → outcome ≡ due_step old) → is_work outcome ≡ is_some old.active → KeepsTime new
timely_step (Outcome.Started m) old new all s due work =
    let idle = none_at_work old.active work in
    timely_started m old new all idle (started_is old m (due idle)) s
timely_step (Outcome.Worked m next) old new all s due work = timely_worked m next old new all s
timely_step (Outcome.Woken m) old new all s due work =
    let idle = none_at_work old.active work in
    let h = s.told in
    let t = all m h.before h.mote in
    let up = rests_up h.before h.rested in
    let awake = t.awake up (unlike old.active m idle) in
    let far = wake_within h.before.machine up in
    let clock : h.after.machine.clock ≡ h.before.machine.clock + due_ticks old.air.clock h.before.machine.clock =
    ap (λ (x : Machine). x.clock) h.fed.machine ∙ fed_clock (Input.Tick (due_ticks old.air.clock h.before.machine.clock)) h.before.machine in
    timely_handed m old new h.before h.after all idle h.mote h.others (omega (arith, clock, awake, far, t.not_ahead))
    (ap (λ (v : NetworkView). v.air.clock) s.result) (ap (λ (v : NetworkView). v.active) s.result) (ap (λ (v : NetworkView). v.started) s.result)
timely_step (Outcome.Heard m) old new all s due work =
    let idle = none_at_work old.active work in
    let h = s.handed in
    let t = all m h.before h.mote in
    let time = heard_time old m s.flight h.before (due idle) s.arrives s.is_for h.mote in
    let clock : h.after.machine.clock ≡ h.before.machine.clock + 0 =
    ap (λ (x : Machine). x.clock) h.fed.machine ∙ fed_clock (Input.Frame s.flight.bytes) h.before.machine in
    timely_handed m old new h.before h.after all idle h.mote h.others (omega (arith, clock, time, t.not_ahead))
    (ap (λ (v : NetworkView). v.air.clock) s.result ∙ landed_clock (arrival old.air) old.air) (ap (λ (v : NetworkView). v.active) s.result) (ap (λ (v : NetworkView). v.started) s.result)
timely_step (Outcome.Missed from to) old new all s due work = timely_missed old new all s
timely_step Outcome.Clock old new all s due work =
    let idle = none_at_work old.active work in
    timely_clock old new all idle (clock_started old (due idle)) s
timely_step Outcome.Rest old new all s due work = rw s all
timely_step Outcome.Exhausted old new all s due work = rw s all

pub timely_submit : (call : Call) (old new : NetworkView) → KeepsTime old → IsNetworkSubmitted call old new → KeepsTime new
timely_submit call old new all s =
    let h = s.submitted in
    let was = all s.m h.before h.mote in
    let now : h.after.machine.clock ≡ old.air.clock = h.same.1 ∙ was.at_work s.was_active in
    subst KeepsTime (sym s.result) (timely_with old (record old { motes = new.motes }) s.m h.before h.after all h.mote h.others
    (record { not_ahead = omega (arith, now); at_work = λ e. now; fresh = λ e. now; awake = λ up e. absurd (e s.was_active) })
    (λ i mote other t. t))

pub timely_feed : (m : ℕ) (input : Input) (old new : NetworkView) → KeepsTime old → IsNetworkFed m input old new → KeepsTime new
timely_feed m input old new all s =
    let h = s.handed in
    let t = all m h.before h.mote in
    let clock : h.after.machine.clock ≡ h.before.machine.clock + ticks_of input = ap (λ (x : Machine). x.clock) h.fed.machine ∙ fed_clock input h.before.machine in
    timely_handed m old new h.before h.after all s.was_active h.mote h.others (omega (arith, clock, s.timeless, s.on_time, t.not_ahead))
    (ap (λ (v : NetworkView). v.air.clock) s.result) (ap (λ (v : NetworkView). v.active) s.result) (ap (λ (v : NetworkView). v.started) s.result)
