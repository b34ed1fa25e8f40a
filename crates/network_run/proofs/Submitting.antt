-- How an input is submitted at rest, or refused.
use Rattle.std.proofs.Common.{◌≡◌, ℕ, ◌+◌, ◌<◌, ◌^◌, Bool, true, false, List, [], ◌∷◌, ◌++◌, length, slice_get, refl, ap, sym, ◌∙◌, arith, Option, Some, None, is_none, nat_lt, option_map, inl, inr, Ok, Err, if◌then◌else◌}
use Rattle.std.proofs.lemmas.Bool.Decides.{nat_tests}
use Rattle.mote_session.specs.Refusals.{input_refusal}
use Rattle.mote_session.specs.SessionView.{SessionView}
use Rattle.mote_session.specs.Voices.{Voices}
use Rattle.mote_session.specs.declared.refusal.SessionRefusal.{SessionRefusal}
use Rattle.mote_types.specs.declared.entry.Input.{Input}
use Rattle.network_session.specs.Network.{NetworkView}
use Rattle.network_session.specs.Refusals.{pass_refusal}
use Rattle.network_session.specs.Waking.{due_ticks}
use Rattle.network_session.specs.declared.fault.NetworkFault.{NetworkFault}
use Rattle.network_steps.specs.NetworkRuns.{Move}
use Rattle.network_steps.specs.Refusals.{fault_if, feed_refusal, is_from_outside, outside_refusal, tick_refusal, told_refusal}
use Rattle.network_steps.specs.StepsView.{StepsView}
use Rattle.network_steps.specs.Works.{TakesFeed, TakesTicks, given_refusal, is_behind}
use Rattle.network_steps.specs.declared.fault.StepsFault.{StepsFault}
use Rattle.network_steps.specs.declared.input.NetworkInput.{NetworkInput}
use Rattle.network_steps.proofs.GivenInputs.{refusal_is}
use Rattle.network_run.specs.Code.Ready.{IsFitIf, IsFromOutside, IsReady, IsUnderWay}
use Rattle.network_run.specs.Code.Way.{IsAtRest, SubmitsIf, moment}
use Rattle.network_run.specs.Outside.{Outside}
use Rattle.network_run.specs.declared.fault.NetworkRunFault.{NetworkRunFault}
use Rattle.network_run.proofs.Caught.{told_caught, untold_on_time}
use Rattle.network_run.proofs.Refused.{due_refused, pass_far, some_within}
use Rattle.network_run.proofs.Lengths.{same_length}
use Rattle.network_run.proofs.Scripts.{no_time}
use Rattle.network_run.proofs.Ways.{all_carried, faulted_same, went_mute, went_nowhere}

-- ---- ticks

tick_why : (ticks : ℕ) (s : StepsView) → IsAtRest s → tick_refusal ticks s ≡ fault_if (pass_refusal ticks s.net)
tick_why ticks s rest = rw (rest.rests.idle, rest.phase) refl

pub no_fault : (o : Option NetworkFault) → fault_if o ≡ None → o ≡ None
no_fault None e = refl
no_fault (Some fault) e = absurd (cc)

too_long_by : (far : Bool) (fault : StepsFault) → fault_if (if far then Some NetworkFault.TooLong else None) ≡ Some fault →
    (if far then Some NetworkFault.TooLong else None) ≡ Some NetworkFault.TooLong
too_long_by true fault e = refl
too_long_by false fault e = absurd (cc)

too_long : (ticks : ℕ) (s : StepsView) (fault : StepsFault) → IsAtRest s → tick_refusal ticks s ≡ Some fault →
    pass_refusal ticks s.net ≡ Some NetworkFault.TooLong
too_long ticks s fault rest why =
    rw rest.rests.idle (too_long_by (nat_lt (2 ^ 62) (s.net.target + ticks)) fault (rw (tick_why ticks s rest, rest.rests.idle) at why))

pub tick_submitted : (ticks : ℕ) (old new : StepsView) → IsAtRest old → TakesTicks ticks old new → tick_refusal ticks old ≡ None →
    (quiet : Bool) (given due : List ℕ) (voices : Voices) →
    SubmitsIf {T = Unit {0}} (Ok tt) quiet (NetworkInput.Tick ticks) new.waiting (moment given due old.net voices) (moment given due new.net voices)
tick_submitted ticks old new rest takes accepted quiet given due voices =
    let outside = Outside.Given (NetworkInput.Tick ticks) ∷ [] in
    let none : new.waiting ≡ None = ap (λ (s : StepsView). s.waiting) takes.result ∙ rest.waiting in
    let far = pass_far ticks old.net rest.rests (no_fault (pass_refusal ticks old.net) (sym (tick_why ticks old rest) ∙ accepted)) in (
      outside,
      no_time (NetworkInput.Tick ticks),
      rw none
          (all_carried quiet due
          (went_mute quiet (Move.Tick ticks new.net) outside old.net new.net given due voices voices takes.passes refl refl refl refl far refl)),
    )

pub tick_ready : (ticks : ℕ) (old new : StepsView) → IsAtRest old → TakesTicks ticks old new → IsUnderWay new
tick_ready ticks old new rest takes =
    let none : new.waiting ≡ None = ap (λ (s : StepsView). s.waiting) takes.result ∙ rest.waiting in
    record {
      works = ap (λ (s : StepsView). s.phase) takes.result;
      reported = ap (λ (s : StepsView). s.sending) takes.result ∙ rest.sending;
      fit = λ ready. rw none tt;
    }

pub tick_refused : (ticks : ℕ) (old new : StepsView) (fault : StepsFault) → IsAtRest old → tick_refusal ticks old ≡ Some fault → new ≡ old →
    (quiet : Bool) (given due : List ℕ) (voices : Voices) →
    SubmitsIf {T = Unit {0}} (Err (NetworkRunFault.Refused NetworkFault.TooLong)) quiet (NetworkInput.Tick ticks) new.waiting (moment given due old.net voices)
    (moment given due new.net voices)
tick_refused ticks old new fault rest why same quiet given due voices =
    let outside = Outside.Given (NetworkInput.Tick ticks) ∷ [] in (
      outside,
      no_time (NetworkInput.Tick ticks),
      faulted_same quiet outside (NetworkRunFault.Refused NetworkFault.TooLong) given due old.net new.net voices voices (ap (λ (s : StepsView). s.net) same)
          (inr (rest.rests, too_long ticks old fault rest why)) (λ ready none within. inl refl),
    )

-- ---- an input of a mote

module _ (m : ℕ) (input : Input) (old new : StepsView) (rest : IsAtRest old) (takes : TakesFeed m input old new) where
  now_waiting : new.waiting ≡ Some (record { mote = m; input = input })
  now_waiting = ap (λ (s : StepsView). s.waiting) takes.result

  fed_by : (quiet : Bool) (given due : List ℕ) (voices : Voices) (behind : Bool) → is_behind old.net takes.told.mote ≡ behind →
      SubmitsIf {T = Unit {0}} (Ok tt) quiet (NetworkInput.ForMote (m + 1) input) new.waiting (moment given due old.net voices) (moment given due new.net voices)
  fed_by quiet given due voices true is =
      let times = Outside.Time m ∷ [] in (
        times ++ Outside.Given (NetworkInput.ForMote (m + 1) input) ∷ [],
        (times, refl, inr (m, refl, refl)),
        rw now_waiting
            (record {
              carried = times;
              parts = refl;
              went = went_mute quiet (Move.Tell m new.net) times old.net new.net given due voices voices (takes.told.told is) refl refl refl refl tt refl;
            }),
      )
  fed_by quiet given due voices false is =
      let same : new.net ≡ old.net = takes.told.untold is in (
        Outside.Given (NetworkInput.ForMote (m + 1) input) ∷ [],
        no_time (NetworkInput.ForMote (m + 1) input),
        rw (now_waiting, same) (record { carried = []; parts = refl; went = went_nowhere quiet (moment given due old.net voices) }),
      )

  pub feed_submitted : (quiet : Bool) (given due : List ℕ) (voices : Voices) →
      SubmitsIf {T = Unit {0}} (Ok tt) quiet (NetworkInput.ForMote (m + 1) input) new.waiting (moment given due old.net voices) (moment given due new.net voices)
  feed_submitted quiet given due voices = fed_by quiet given due voices (is_behind old.net takes.told.mote) refl

  feed_fit : m < length old.net.motes → IsFromOutside input → (behind : Bool) → is_behind old.net takes.told.mote ≡ behind → IsReady new.net →
      IsFitIf (Some (record { mote = m; input = input })) new.net
  feed_fit there outside true is ready =
      let tells = takes.told.told is in
      let t = tells.told.told in
      record {
        there = rw (same_length old.net.motes m t.after new.net.motes t.others) there;
        outside = outside;
        caught = inl (told_caught m old.net new.net ready tells);
      }
  feed_fit there outside false is ready =
      let same : new.net ≡ old.net = takes.told.untold is in
      rw same (record { there = there; outside = outside; caught = inr (rest.rests, untold_on_time m old.net takes.told.mote takes.told.there is) })

  pub feed_ready : m < length old.net.motes → IsFromOutside input → IsUnderWay new
  feed_ready there outside = record {
    works = ap (λ (s : StepsView). s.phase) takes.result;
    reported = ap (λ (s : StepsView). s.sending) takes.result ∙ rest.sending;
    fit = λ ready. rw now_waiting (feed_fit there outside (is_behind old.net takes.told.mote) refl ready);
  }

comes_from : (input : Input) → IsFromOutside input → is_from_outside input ≡ true
comes_from (Input.Tick n) outside = absurd (let t = outside.timeless in cc)
comes_from (Input.Serial bytes) outside = let some = outside.bytes in grind (arith, nat_tests)
comes_from (Input.Frame bytes) outside = let some = outside.bytes in grind (arith, nat_tests)

feed_by : (m : ℕ) (input : Input) (net : NetworkView) (o : Option SessionView) → (o ≡ None → ⊥) → is_from_outside input ≡ true →
    (if is_none o then Some StepsFault.NoMote else if is_from_outside input then told_refusal m o net else Some (StepsFault.Refused SessionRefusal.NoInput))
    ≡ told_refusal m o net
feed_by m input net None there outside = absurd (there refl)
feed_by m input net (Some mote) there outside = rw outside refl

feed_why : (m : ℕ) (input : Input) (s : StepsView) → IsAtRest s → m < length s.net.motes → IsFromOutside input →
    feed_refusal m input s ≡ fault_if (given_refusal m s.net)
feed_why m input s rest there outside =
    let some : slice_get s.net.motes m ≡ None → ⊥ = some_within s.net.motes m there in
    let at_rest : feed_refusal m input s ≡ outside_refusal m input s.net = rw (rest.rests.idle, rest.phase) refl in
    at_rest ∙ (feed_by m input s.net (slice_get s.net.motes m) some (comes_from input outside) ∙ refusal_is m s.net some)

-- a mote refuses the time itself
pub record IsOwn (m : ℕ) (net : NetworkView) (fault : StepsFault) : Type 0 where
  pub refusal : SessionRefusal
  pub why : given_refusal m net ≡ Some (NetworkFault.Refused refusal)
  pub reported : fault ≡ StepsFault.Refused refusal

pub feed_refused : (m : ℕ) (input : Input) (old new : StepsView) (fault : StepsFault) (cause : NetworkFault) → IsAtRest old → m < length old.net.motes →
    IsOwn m old.net fault → ((refusal : SessionRefusal) → fault ≡ StepsFault.Refused refusal → cause ≡ NetworkFault.Refused refusal) → new ≡ old →
    (quiet : Bool) (given due : List ℕ) (voices : Voices) →
    SubmitsIf {T = Unit {0}} (Err (NetworkRunFault.Refused cause)) quiet (NetworkInput.ForMote (m + 1) input) new.waiting (moment given due old.net voices)
    (moment given due new.net voices)
feed_refused m input old new fault cause rest there own is same quiet given due voices =
    let times = Outside.Time m ∷ [] in
    let outside = times ++ Outside.Given (NetworkInput.ForMote (m + 1) input) ∷ [] in
    let why : given_refusal m old.net ≡ Some cause = own.why ∙ ap Some (sym (is own.refusal own.reported)) in (
      outside,
      (times, refl, inr (m, refl, refl)),
      faulted_same quiet outside (NetworkRunFault.Refused cause) given due old.net new.net voices voices (ap (λ (s : StepsView). s.net) same)
          (inr (rest.rests, why))
          (λ ready none within. due_refused old.net ready none within m cause rest.rests there why),
    )

own_by : (m : ℕ) (net : NetworkView) (fault : StepsFault) (o : Option SessionRefusal) →
    given_refusal m net ≡ option_map (λ (refusal : SessionRefusal). NetworkFault.Refused refusal) o → fault_if (given_refusal m net) ≡ Some fault → IsOwn m net fault
own_by m net fault None is why = absurd (let e : None ≡ Some fault = rw is at why in cc)
own_by m net fault (Some refusal) is why = record { refusal = refusal; why = is; reported = let e : Some (StepsFault.Refused refusal) ≡ Some fault = rw is at why in cc }

pub own_of : (m : ℕ) (input : Input) (s : StepsView) (fault : StepsFault) → IsAtRest s → m < length s.net.motes → IsFromOutside input →
    feed_refusal m input s ≡ Some fault → IsOwn m s.net fault
own_of m input s fault rest there outside why =
    by_mote (slice_get s.net.motes m) refl
  where
    refuses : fault_if (given_refusal m s.net) ≡ Some fault
    refuses = sym (feed_why m input s rest there outside) ∙ why

    by_tests : (mote : SessionView) → slice_get s.net.motes m ≡ Some mote → (halted late : Bool) → mote.machine.is_halted ≡ halted →
        nat_lt mote.machine.clock s.net.air.clock ≡ late → IsOwn m s.net fault
    by_tests mote here true late h l = own_by m s.net fault None (rw (here, h) refl) refuses
    by_tests mote here false false h l = own_by m s.net fault None (rw (here, h, rest.rests.idle, l) refl) refuses
    by_tests mote here false true h l =
        own_by m s.net fault (input_refusal (Input.Tick (due_ticks s.net.air.clock mote.machine.clock)) mote) (rw (here, h, rest.rests.idle, l) refl) refuses

    by_mote : (o : Option SessionView) → slice_get s.net.motes m ≡ o → IsOwn m s.net fault
    by_mote None none = absurd (some_within s.net.motes m there none)
    by_mote (Some mote) here = by_tests mote here mote.machine.is_halted (nat_lt mote.machine.clock s.net.air.clock) refl refl
