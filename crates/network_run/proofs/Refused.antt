-- What a network refuses that has just booted, or went on from there: too much.
use Rattle.std.proofs.Common.{◌≡◌, ℕ, zero, suc, ◌+◌, ◌<◌, ◌≤◌, ◌^◌, ◌==◌, List, [], ◌∷◌, length, slice_get, refl, ap, ◌∙◌, arith, Bool, true, false, not, ◌&&◌, ◌||◌, Option, Some, None, IsSomeAnd, inr, is_some, nat_le, nat_lt, option_map, if◌then◌else◌}
use Rattle.std.proofs.lemmas.Bool.Decides.{nat_tests}
use Rattle.std.specs.Option.{option_or}
use Rattle.network_session.specs.Alarms.{come_by, first_alarm, first_come, sooner}
use Rattle.network_session.specs.declared.alarm.Alarm.{Alarm}
use Rattle.medium_core.specs.Air.{arrival}
use Rattle.medium_core.specs.declared.flight.Flight.{Flight}
use Rattle.mote_session.specs.Refusals.{is_beyond, is_input, unrest}
use Rattle.mote_session.specs.SessionView.{AwaitedCall, SessionView}
use Rattle.mote_session.specs.declared.refusal.SessionRefusal.{SessionRefusal}
use Rattle.mote_types.specs.declared.entry.Input.{Input}
use Rattle.kernel_core.specs.Run.{is_still}
use Rattle.network_session.specs.Network.{NetworkView, wakes_of}
use Rattle.network_session.specs.Refusals.{feed_refusal, frame_refusal, mote_at_work, mote_refusal, outcome_refusal, pass_refusal, passed_refusal, refusal_for, step_refusal, time_refusal, work_refusal}
use Rattle.network_session.specs.Schedule.{arriving, due_now, due_step, hearing, is_rest, is_unheard, waking}
use Rattle.network_session.specs.Waking.{due_tick, wake}
use Rattle.network_session.specs.declared.fault.NetworkFault.{NetworkFault}
use Rattle.network_session.specs.declared.outcome.Outcome.{Outcome}
use Rattle.network_session.proofs.Due.{due_is}
use Rattle.network_session.proofs.Heard.{heard_due_by}
use Rattle.network_run.specs.Code.Ready.{IsFromOutside, IsOnTime, IsReady, IsWithin}
use Rattle.network_run.specs.NetworkRunText.{AwaitsNone, IsTooMuch}
use Rattle.network_steps.specs.Works.{given_refusal}
use Rattle.network_steps.specs.NetworkRuns.{IsResting, is_halted_in}

-- a mote at rest refuses an input only where it is too much

rests_by : (turn : Option AwaitedCall) (halted idle : Bool) → turn ≡ None → (halted || not halted && idle) ≡ true → halted ≡ false →
    (if is_some turn then Some SessionRefusal.AwaitsCall else if halted then Some SessionRefusal.Halted
    else if not (not halted && idle) then Some SessionRefusal.NotAtRest else None) ≡ None
rests_by None true idle closed still up = absurd (cc)
rests_by None false true closed still up = refl
rests_by None false false closed still up = absurd (cc)
rests_by (Some turn) halted idle closed still up = absurd (cc)

refusal_by : (o : Option SessionRefusal) (fits beyond : Bool) (fault : NetworkFault) → o ≡ None → fits ≡ true →
    option_map (λ (refusal : SessionRefusal). NetworkFault.Refused refusal)
    (option_or o (if not fits then Some SessionRefusal.NoInput else if beyond then Some SessionRefusal.TooManyInputs else None)) ≡ Some fault →
    IsTooMuch fault
refusal_by None true true fault none is e = inr (cc)
refusal_by None true false fault none is e = absurd (cc)
refusal_by None false beyond fault none is e = absurd (cc)
refusal_by (Some refusal) fits beyond fault none is e = absurd (cc)

rests_refused : (input : Input) (mote : SessionView) (fault : NetworkFault) → mote.turn ≡ None → is_still mote.machine ≡ true →
    mote.machine.is_halted ≡ false → is_input input ≡ true → mote_refusal input mote ≡ Some fault → IsTooMuch fault
rests_refused input mote fault closed still up is why =
    refusal_by (unrest mote) (is_input input) (is_beyond input mote) fault (rests_by mote.turn mote.machine.is_halted _ closed still up) is why

-- ---- the mote whose moment has come

one_alarm : (a b : Alarm) → Some a ≡ Some b → b ≡ a
one_alarm a b e = cc

owner_from : (i : ℕ) (motes : List SessionView) (a : Alarm) → first_alarm i (wakes_of motes) ≡ Some a → i ≤ a.owner
owner_from i [] a e = absurd (cc)
owner_from i (x ∷ motes) a e = by_option (first_alarm (i + 1) (wakes_of motes)) refl e (owner_from (i + 1) motes)
  where
    own : Some (record { moment = wake x.machine; owner = i }) ≡ Some a → i ≤ a.owner
    own is =
        let owner : a.owner ≡ i = ap (λ (one : Alarm). one.owner) (one_alarm (record { moment = wake x.machine; owner = i }) a is) in omega (arith, owner)

    by_option : (o : Option Alarm) → first_alarm (i + 1) (wakes_of motes) ≡ o → Some (sooner (record { moment = wake x.machine; owner = i }) o) ≡ Some a →
        ((b : Alarm) → first_alarm (i + 1) (wakes_of motes) ≡ Some b → i + 1 ≤ b.owner) → i ≤ a.owner
    by_option None here is later = own is
    by_option (Some b) here is later = by_test (nat_le (wake x.machine) b.moment) is
      where
        by_test : (t : Bool) → Some (if t then record { moment = wake x.machine; owner = i } else b) ≡ Some a → i ≤ a.owner
        by_test true is = own is
        by_test false is =
            let owner : a.owner ≡ b.owner = ap (λ (one : Alarm). one.owner) (one_alarm b a is) in
            let low = later b here in omega (arith, low, owner)

-- the first alarm is that of its owner
alarm_of : (i m : ℕ) (motes : List SessionView) (mote : SessionView) (a : Alarm) → first_alarm i (wakes_of motes) ≡ Some a → a.owner ≡ i + m →
    slice_get motes m ≡ Some mote → a.moment ≡ wake mote.machine
alarm_of i m [] mote a e owner there = absurd (cc)
alarm_of i m (x ∷ motes) mote a e owner there =
    by_option (first_alarm (i + 1) (wakes_of motes)) refl e (λ k b first same here. alarm_of (i + 1) k motes mote b first same here)
  where
    own_by : (k : ℕ) → a ≡ record { moment = wake x.machine; owner = i } → a.owner ≡ i + k → slice_get (x ∷ motes) k ≡ Some mote → a.moment ≡ wake mote.machine
    own_by zero is same here =
        let one : x ≡ mote = cc in ap (λ (other : Alarm). other.moment) is ∙ ap (λ (s : SessionView). wake s.machine) one
    own_by (suc k) is same here = let number : a.owner ≡ i = ap (λ (other : Alarm). other.owner) is in absurd (omega (arith, same, number))

    later_by : (k : ℕ) (b : Alarm) → first_alarm (i + 1) (wakes_of motes) ≡ Some b → a ≡ b → a.owner ≡ i + k → slice_get (x ∷ motes) k ≡ Some mote →
        ((j : ℕ) → b.owner ≡ (i + 1) + j → slice_get motes j ≡ Some mote → b.moment ≡ wake mote.machine) → a.moment ≡ wake mote.machine
    later_by zero b first is same here later =
        let number : a.owner ≡ b.owner = ap (λ (other : Alarm). other.owner) is in
        let low = owner_from (i + 1) motes b first in absurd (omega (arith, low, same, number))
    later_by (suc k) b first is same here later =
        let number : a.owner ≡ b.owner = ap (λ (other : Alarm). other.owner) is in
        ap (λ (other : Alarm). other.moment) is ∙ later k (omega (arith, same, number)) here

    by_option : (o : Option Alarm) → first_alarm (i + 1) (wakes_of motes) ≡ o → Some (sooner (record { moment = wake x.machine; owner = i }) o) ≡ Some a →
        ((j : ℕ) (b : Alarm) → first_alarm (i + 1) (wakes_of motes) ≡ Some b → b.owner ≡ (i + 1) + j → slice_get motes j ≡ Some mote →
        b.moment ≡ wake mote.machine) → a.moment ≡ wake mote.machine
    by_option None here is later = own_by m (one_alarm (record { moment = wake x.machine; owner = i }) a is) owner there
    by_option (Some b) here is later = by_test (nat_le (wake x.machine) b.moment) is
      where
        by_test : (t : Bool) → Some (if t then record { moment = wake x.machine; owner = i } else b) ≡ Some a → a.moment ≡ wake mote.machine
        by_test true is = own_by m (one_alarm (record { moment = wake x.machine; owner = i }) a is) owner there
        by_test false is = later_by m b here (one_alarm b a is) owner there (λ j. later j b here)

come_wake : (now m : ℕ) (motes : List SessionView) (mote : SessionView) → first_come now (wakes_of motes) ≡ Some m → slice_get motes m ≡ Some mote →
    wake mote.machine ≤ now
come_wake now m motes mote e there = by_option (first_alarm 0 (wakes_of motes)) refl e
  where
    by_option : (o : Option Alarm) → first_alarm 0 (wakes_of motes) ≡ o → come_by now o ≡ Some m → wake mote.machine ≤ now
    by_option None here come = absurd (cc)
    by_option (Some a) here come = by_test (nat_le a.moment now) refl come
      where
        by_test : (t : Bool) → nat_le a.moment now ≡ t → (if t then Some a.owner else None) ≡ Some m → wake mote.machine ≤ now
        by_test true low is =
            let owner : a.owner ≡ m = cc in
            let moment = alarm_of 0 m motes mote a here (omega (arith, owner)) there in
            let within : a.moment ≤ now = grind (arith, nat_tests) in omega (arith, moment, within)
        by_test false low is = absurd (cc)

-- ---- a network that keeps all this

unlike : (o : Option ℕ) (i : ℕ) → o ≡ None → o ≡ Some i → ⊥
unlike o i none some = absurd (cc)

within : {X : Type 0} (xs : List X) (m : ℕ) (x : X) → slice_get xs m ≡ Some x → m < length xs
within [] m x h = absurd (cc)
within (z ∷ xs) zero x h = omega arith
within (z ∷ xs) (suc m) x h = let less = within xs m x h in omega (arith, less)

pub some_within : {X : Type 0} (xs : List X) (m : ℕ) → m < length xs → slice_get xs m ≡ None → ⊥
some_within [] m less none = absurd (omega (arith, less))
some_within (x ∷ xs) zero less none = absurd (cc)
some_within (x ∷ xs) (suc m) less none = some_within xs m (omega (arith, less)) none

rest_started : (net : NetworkView) → due_step net ≡ Outcome.Rest → length net.motes ≤ net.started
rest_started net h = by_test (nat_lt net.started (length net.motes)) refl h
  where
    by_test : (b : Bool) → nat_lt net.started (length net.motes) ≡ b →
        (if b then Outcome.Started net.started else if net.rounds == 0 then (if is_rest (due_now net) then Outcome.Rest else Outcome.Exhausted) else due_now net) ≡ Outcome.Rest →
        length net.motes ≤ net.started
    by_test true e h = absurd (cc)
    by_test false e h = grind (arith, nat_tests)

module _ (net : NetworkView) (ready : IsReady net) (none : AwaitsNone net) (within_limit : IsWithin net) where
  mote_refused : (input : Input) (m : ℕ) (mote : SessionView) (fault : NetworkFault) → net.active ≡ None → length net.motes ≤ net.started →
      slice_get net.motes m ≡ Some mote → mote.machine.is_halted ≡ false → is_input input ≡ true → mote_refusal input mote ≡ Some fault → IsTooMuch fault
  mote_refused input m mote fault idle all there up is why =
      let less = within net.motes m mote there in
      rests_refused input mote fault (none m mote there) (ready.still m mote there (omega (arith, less, all)) (unlike net.active m idle)) up is why

  -- a halted mote's moment never comes
  come_up : (m : ℕ) (mote : SessionView) → first_come net.air.clock (wakes_of net.motes) ≡ Some m → slice_get net.motes m ≡ Some mote →
      mote.machine.is_halted ≡ false
  come_up m mote e there = by_halt mote.machine.is_halted refl
    where
      by_halt : (b : Bool) → mote.machine.is_halted ≡ b → mote.machine.is_halted ≡ false
      by_halt false up = up
      by_halt true halted =
          let low = come_wake net.air.clock m net.motes mote e there in
          let never : wake mote.machine ≡ 18446744073709551615 = rw halted refl in
          absurd (omega (arith, low, never, ready.within, within_limit))

  hearing_up : (m : ℕ) (mote : SessionView) (f : Flight) (o : Option SessionView) → slice_get net.motes f.to ≡ o →
      Outcome.Woken m ≡ hearing net.air.clock f o → slice_get net.motes m ≡ Some mote → mote.machine.is_halted ≡ false
  hearing_up m mote f None e is there = absurd (cc)
  hearing_up m mote f (Some other) e is there =
      by_tests other.machine.is_halted (length f.bytes.items == 0) (nat_lt other.machine.clock net.air.clock) refl is
    where
      by_tests : (a b t : Bool) → other.machine.is_halted ≡ a →
          Outcome.Woken m ≡ (if a || b then Outcome.Missed f.from f.to else if t then Outcome.Woken f.to else Outcome.Heard f.to) → mote.machine.is_halted ≡ false
      by_tests true b t up h = absurd (cc)
      by_tests false true t up h = absurd (cc)
      by_tests false false true up h =
          let to : m ≡ f.to = cc in
          let here : slice_get net.motes f.to ≡ Some mote = rw (← to) there in
          let same : other ≡ mote = let x = e in let y = here in cc in
          rw (← same) up
      by_tests false false false up h = absurd (cc)

  arriving_up : (m : ℕ) (mote : SessionView) (o : Option Flight) → Outcome.Woken m ≡ arriving net o → slice_get net.motes m ≡ Some mote →
      mote.machine.is_halted ≡ false
  arriving_up m mote (Some f) is there = hearing_up m mote f (slice_get net.motes f.to) refl is there
  arriving_up m mote None is there = by_test (nat_lt net.air.clock net.target) is
    where
      by_test : (b : Bool) → Outcome.Woken m ≡ (if b then Outcome.Clock else Outcome.Rest) → mote.machine.is_halted ≡ false
      by_test true h = absurd (cc)
      by_test false h = absurd (cc)

  woken_up : (m : ℕ) (mote : SessionView) (o : Option ℕ) → first_come net.air.clock (wakes_of net.motes) ≡ o → Outcome.Woken m ≡ waking net o →
      slice_get net.motes m ≡ Some mote → mote.machine.is_halted ≡ false
  woken_up m mote None e is there = arriving_up m mote (arrival net.air) is there
  woken_up m mote (Some k) e is there = let same : k ≡ m = cc in come_up m mote (e ∙ ap Some same) there

  -- the time that is due is refused only where it is too much
  woken_refused : (m : ℕ) (fault : NetworkFault) (o : Option SessionView) → slice_get net.motes m ≡ o → net.active ≡ None → Outcome.Woken m ≡ due_step net →
      passed_refusal (due_tick net.air.clock) o ≡ Some fault → IsTooMuch fault
  woken_refused m fault None e idle due why = absurd (cc)
  woken_refused m fault (Some mote) e idle due why =
      let now = due_is net (Outcome.Woken m) refl due in
      mote_refused (due_tick net.air.clock mote) m mote fault idle now.all_started e
      (woken_up m mote (first_come net.air.clock (wakes_of net.motes)) refl now.due e) refl why

  -- and so the frame that arrives
  heard_refused : (m : ℕ) (fault : NetworkFault) (o : Option Flight) (mote : Option SessionView) → arrival net.air ≡ o → slice_get net.motes m ≡ mote →
      net.active ≡ None → Outcome.Heard m ≡ due_step net →
      IsSomeAnd o (λ f. (f.to ≡ m) × (is_unheard f (slice_get net.motes f.to) ≡ false)) → frame_refusal o mote ≡ Some fault → IsTooMuch fault
  heard_refused m fault None mote a e idle due heard why = absurd heard
  heard_refused m fault (Some f) None a e idle due heard why = absurd (cc)
  heard_refused m fault (Some f) (Some mote) a e idle due heard why =
      let there : slice_get net.motes f.to ≡ Some mote = ap (slice_get net.motes) heard.0 ∙ e in
      by_tests mote.machine.is_halted (length f.bytes.items == 0) refl refl (rw there at heard.1)
    where
      by_tests : (a b : Bool) → mote.machine.is_halted ≡ a → (length f.bytes.items == 0) ≡ b → (a || b) ≡ false → IsTooMuch fault
      by_tests true b up some h = absurd (cc)
      by_tests false true up some h = absurd (cc)
      by_tests false false up some h =
          let now = due_is net (Outcome.Heard m) refl due in
          let bytes : is_input (Input.Frame f.bytes) ≡ true = grind (arith, nat_tests) in
          mote_refused (Input.Frame f.bytes) m mote fault idle now.all_started e up bytes why

  outcome_refused : (x : Outcome) (fault : NetworkFault) → net.active ≡ None → x ≡ due_step net → outcome_refusal x net ≡ Some fault → IsTooMuch fault
  outcome_refused (Outcome.Woken m) fault idle due why = woken_refused m fault (slice_get net.motes m) refl idle due why
  outcome_refused (Outcome.Heard m) fault idle due why =
      heard_refused m fault (arrival net.air) (slice_get net.motes m) refl refl idle due (heard_due_by net m due) why
  outcome_refused (Outcome.Started m) fault idle due why = absurd (cc)
  outcome_refused (Outcome.Worked m next) fault idle due why = absurd (cc)
  outcome_refused (Outcome.Missed from to) fault idle due why = absurd (cc)
  outcome_refused Outcome.Clock fault idle due why = absurd (cc)
  outcome_refused Outcome.Rest fault idle due why = absurd (cc)
  outcome_refused Outcome.Exhausted fault idle due why = absurd (cc)

  work_refused : (m : ℕ) (fault : NetworkFault) (o : Option SessionView) → slice_get net.motes m ≡ o → work_refusal o ≡ Some fault → IsTooMuch fault
  work_refused m fault None e why = absurd (cc)
  work_refused m fault (Some mote) e why = absurd (let none_here : None ≡ Some fault = rw (none m mote e) at why in cc)

  pub step_refused : (fault : NetworkFault) → step_refusal net ≡ Some fault → IsTooMuch fault
  step_refused fault why = by_active net.active refl why
    where
      by_active : (o : Option ℕ) → net.active ≡ o →
          (if is_some o then work_refusal (mote_at_work net o) else outcome_refusal (due_step net) net) ≡ Some fault → IsTooMuch fault
      by_active (Some m) e h = work_refused m fault (slice_get net.motes m) refl h
      by_active None e h = outcome_refused (due_step net) fault e refl h

  -- a mote that is behind refuses the time only where it is too much
  due_refused_by : (m : ℕ) (fault : NetworkFault) (o : Option SessionView) → slice_get net.motes m ≡ o → IsResting net → m < length net.motes →
      (if is_halted_in o then None else time_refusal net.air.clock o) ≡ Some fault → IsTooMuch fault
  due_refused_by m fault None e rests less why = absurd (some_within net.motes m less e)
  due_refused_by m fault (Some mote) e rests less why = by_tests mote.machine.is_halted (nat_lt mote.machine.clock net.air.clock) refl why
    where
      by_tests : (halted late : Bool) → mote.machine.is_halted ≡ halted → (if halted then None else if late
          then mote_refusal (due_tick net.air.clock mote) mote else None) ≡ Some fault → IsTooMuch fault
      by_tests true late up why = absurd (cc)
      by_tests false true up why =
          mote_refused (due_tick net.air.clock mote) m mote fault rests.idle (rest_started net rests.due) e up refl why
      by_tests false false up why = absurd (cc)

  pub due_refused : (m : ℕ) (fault : NetworkFault) → IsResting net → m < length net.motes → given_refusal m net ≡ Some fault → IsTooMuch fault
  due_refused m fault rests less why = due_refused_by m fault (slice_get net.motes m) refl rests less (rw rests.idle at why)

  -- and an input from outside, where the mote is there and has got the time
  fed_by : (m : ℕ) (input : Input) (fault : NetworkFault) (o : Option SessionView) → slice_get net.motes m ≡ o → IsResting net → IsFromOutside input →
      m < length net.motes → IsOnTime m net → is_halted_in o ≡ false → refusal_for input net.air.clock o ≡ Some fault → IsTooMuch fault
  fed_by m input fault None e rests outside less on_time up why = absurd (some_within net.motes m less e)
  fed_by m input fault (Some mote) e rests outside less on_time up why =
      mote_refused input m mote fault rests.idle (rest_started net rests.due) e up outside.bytes (rw (outside.timeless, on_time mote e up) at why)

  pub fed_refused : (m : ℕ) (input : Input) (fault : NetworkFault) → IsResting net → IsFromOutside input → m < length net.motes → IsOnTime m net →
      is_halted_in (slice_get net.motes m) ≡ false → feed_refusal m input net ≡ Some fault → IsTooMuch fault
  fed_refused m input fault rests outside less on_time up why =
      fed_by m input fault (slice_get net.motes m) refl rests outside less on_time up (rw rests.idle at why)

-- ticks that are accepted let the clock go to 2^62 at most
pub pass_far : (ticks : ℕ) (net : NetworkView) → IsResting net → pass_refusal ticks net ≡ None → net.target + ticks ≤ 2 ^ 62
pass_far ticks net rests accepted = by_test (nat_lt (2 ^ 62) (net.target + ticks)) refl (rw rests.idle at accepted)
  where
    by_test : (b : Bool) → nat_lt (2 ^ 62) (net.target + ticks) ≡ b → (if b then Some NetworkFault.TooLong else None) ≡ None → net.target + ticks ≤ 2 ^ 62
    by_test true e h = absurd (cc)
    by_test false e h = grind (arith, nat_tests)
