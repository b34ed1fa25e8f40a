-- What a network that reports what happens keeps from its start on, and what it refuses then.
use Rattle.std.proofs.Common.{◌≡◌, ◌⊎◌, ℕ, zero, suc, ◌<◌, List, [], ◌∷◌, length, slice_get, refl, ap, sym, subst, ◌∙◌, arith, Bool, true, false, not, Option, Some, None, is_some, if◌then◌else◌, inl, inr}
use Rattle.std.proofs.lemmas.Bool.Decides.{nat_tests}
use Rattle.kernel_core.specs.Machine.{Machine, booted}
use Rattle.kernel_core.specs.declared.config.Config.{Config}
use Rattle.medium_core.specs.declared.link.Link.{Link}
use Rattle.mote_session.specs.SessionView.{AwaitedCall, SessionView}
use Rattle.mote_session.specs.Voices.{Voices}
use Rattle.mote_session.specs.declared.refusal.SessionRefusal.{SessionRefusal}
use Rattle.mote_types.specs.declared.call.Call.{Call}
use Rattle.mote_types.specs.declared.entry.Input.{Input}
use Rattle.network_session.specs.Network.{NetworkView}
use Rattle.network_session.specs.Refusals.{pass_refusal, step_refusal, work_refusal}
use Rattle.network_session.specs.Steps.{IsNetworkSubmitted}
use Rattle.network_session.specs.declared.fault.NetworkFault.{NetworkFault}
use Rattle.network_run.proofs.Caught.{fit_on, on_time_by, told_caught, untold_on_time}
use Rattle.network_run.proofs.Lengths.{same_length}
use Rattle.network_run.proofs.Ready.{leads_ready, move_ready, move_within, none_awaits, start_ready}
use Rattle.network_run.proofs.Refused.{fed_refused, pass_far, step_refused}
use Rattle.network_run.proofs.Submitting.{no_fault}
use Rattle.network_run.proofs.Ways.{leads_within}
use Rattle.network_run.specs.Code.Ready.{IsFit, IsFitIf, IsFromOutside, IsReady, IsWithin}
use Rattle.network_run.specs.NetworkRunText.{IsAtStart, IsTooMuch}
use Rattle.network_run.specs.Stepper.{AwaitsOrIsFull, IsReadyStepper, NoneWaits}
use Rattle.network_steps.proofs.Going.{refused_by}
use Rattle.network_steps.specs.Code.Going.{StepsBy, StopsBy}
use Rattle.network_steps.specs.NetworkRuns.{IsResting, Move}
use Rattle.network_steps.specs.Refusals as steps
use Rattle.network_steps.specs.Refusals.{fault_of, is_fresh, is_from_outside, link_refusal, tick_refusal, unrest, unrest_in, awaited_turn}
use Rattle.network_steps.specs.StepsView.{StepsView, opened_net, opened_steps, steps_over}
use Rattle.network_steps.specs.Works.{GoesNext, IsCame, IsRefused, MovesSilently, RefusesInput, TakesFeed, TakesLink, TakesTicks, inputs_waiting, is_behind, phase_after}
use Rattle.network_steps.specs.declared.came.Came.{Came}
use Rattle.network_steps.specs.declared.came.Phase.{Phase}
use Rattle.network_steps.specs.declared.came.Sending.{Sending}
use Rattle.network_steps.specs.declared.came.Waiting.{Waiting}
use Rattle.network_steps.specs.declared.fault.StepsFault.{StepsFault}

-- ---- what is accepted, and when

fresh_by : (p : Phase) (o : Option StepsFault) → (if not (is_fresh p) then Some StepsFault.IsStarted else o) ≡ None → p ≡ Phase.Fresh
fresh_by Phase.Fresh o e = refl
fresh_by Phase.Working o e = absurd (cc)
fresh_by Phase.Resting o e = absurd (cc)
fresh_by Phase.Exhausted o e = absurd (cc)

resting_by : (b : Bool) (p : Phase) → (if b then Some (StepsFault.Refused SessionRefusal.AwaitsCall) else unrest_in p) ≡ None → p ≡ Phase.Resting
resting_by true p e = absurd (cc)
resting_by false Phase.Resting e = refl
resting_by false Phase.Fresh e = absurd (cc)
resting_by false Phase.Working e = absurd (cc)
resting_by false Phase.Exhausted e = absurd (cc)

both_none : (u o : Option StepsFault) → (if is_some u then u else o) ≡ None → (u ≡ None) × (o ≡ None)
both_none None o e = (refl, e)
both_none (Some fault) o e = absurd (cc)

resting : (s : StepsView) (o : Option StepsFault) → (if is_some (unrest s) then unrest s else o) ≡ None → s.phase ≡ Phase.Resting
resting s o accepted = let none = (both_none (unrest s) o accepted).0 in resting_by (is_some (awaited_turn s.net)) s.phase none

-- ---- each call

pub over_stepper : (net : NetworkView) → IsAtStart net → IsReadyStepper (steps_over net)
over_stepper net start = record { ready = start_ready net start; within = start.far; fit = tt; waits = tt }

pub open_stepper : (configs : ℕ → Config) (motes : List SessionView) (room links bound : ℕ) →
    ((m : ℕ) (mote : SessionView) → slice_get motes m ≡ Some mote → (mote.machine ≡ booted (configs m)) × (mote.turn ≡ None)) →
    IsReadyStepper (opened_steps motes room links bound)
open_stepper configs motes room links bound boots =
    let start : IsAtStart (opened_net motes room bound) = record {
      idle = refl;
      none_started = refl;
      within = omega arith;
      far = omega arith;
      awaits = λ m mote there. (boots m mote there).1;
      on_time = λ m mote there. ap (λ (x : Machine). x.clock) (boots m mote there).0;
    } in
    record { ready = start_ready (opened_net motes room bound) start; within = start.far; fit = tt; waits = refl }

pub link_stepper : (from : ℕ) (link : Link) (old new : StepsView) → IsReadyStepper old → TakesLink from link old new → link_refusal from link old ≡ None →
    IsReadyStepper new
link_stepper from link old new s takes accepted =
    let fresh : old.phase ≡ Phase.Fresh = fresh_by old.phase _ accepted in
    let none : old.waiting ≡ None = subst (λ (p : Phase). NoneWaits p old) fresh s.waits in
    let waiting : new.waiting ≡ None = ap (λ (v : StepsView). v.waiting) takes.result ∙ none in
    let phase : new.phase ≡ Phase.Fresh = ap (λ (v : StepsView). v.phase) takes.result ∙ fresh in
    let net = ap (λ (v : StepsView). v.net) takes.result in
    record {
      ready = rw net (record { time = s.ready.time; within = s.ready.within; still = s.ready.still; awaits = s.ready.awaits });
      within = rw net s.within;
      fit = rw waiting tt;
      waits = rw phase waiting;
    }

next_waits : (came : Came) (new : StepsView) → IsCame came new → NoneWaits (phase_after came) new
next_waits Came.Rest new is = is
next_waits Came.Exhausted new is = tt
next_waits (Came.Turn m) new is = tt
next_waits (Came.Entry m) new is = tt
next_waits Came.Clock new is = tt
next_waits (Came.Lost from to) new is = tt
next_waits (Came.Full from to) new is = tt
next_waits (Came.Missed from to) new is = tt
next_waits (Came.Unheard m) new is = tt

pub next_stepper : (came : Came) (old new : StepsView) → IsReadyStepper old → GoesNext came old new → IsReadyStepper new
next_stepper came old new s goes = record {
  ready = leads_ready goes.moves old.net new.net s.ready goes.leads;
  within = leads_within goes.moves old.net new.net (inputs_waiting new.waiting) old.waiting goes.inputs goes.leads s.within;
  fit = fit_on goes.moves old.waiting new.waiting old.net new.net goes.inputs goes.untold goes.leads s.fit;
  waits = subst (λ (p : Phase). NoneWaits p new) (sym goes.phase) (next_waits came new goes.is_came);
}

-- silent moves
silent_ready : (old new : NetworkView) (waiting left : Option Waiting) → IsReady old → IsWithin old → IsFitIf waiting old → MovesSilently old new waiting left →
    IsReady new × IsWithin new × IsFitIf left new
silent_ready old new waiting left ready within fit w = (
  leads_ready w.moves old new ready w.leads,
  leads_within w.moves old new (inputs_waiting left) waiting w.inputs w.leads within,
  fit_on w.moves waiting left old new w.inputs w.untold w.leads fit,
)

pub step_stepper : (came : Option Came) (old new : StepsView) (before after : Voices) → IsReadyStepper old → StepsBy came old new before after → IsReadyStepper new
step_stepper (Some came) old new before after s goes = next_stepper came old new s goes.goes
step_stepper None old new before after s passes =
    let silent = silent_ready old.net new.net old.waiting new.waiting s.ready s.within s.fit passes.way in
    record { ready = silent.0; within = silent.1; fit = silent.2; waits = rw passes.works tt }

-- what became of a frame is reported, or forgotten
same_waits : (p : Phase) (old : StepsView) (sending : Option Sending) → NoneWaits p old → NoneWaits p (record old { sending = sending })
same_waits Phase.Fresh old sending none = none
same_waits Phase.Resting old sending rest = rest
same_waits Phase.Working old sending none = tt
same_waits Phase.Exhausted old sending none = tt

pub losses_stepper : (old : StepsView) (last : Came) (sending : Option Sending) → IsReadyStepper old →
    IsReadyStepper (record old { sending = sending }) × IsReadyStepper (record old { last = last; sending = sending; phase = Phase.Working })
losses_stepper old last sending s = (
  record { ready = s.ready; within = s.within; fit = s.fit; waits = same_waits old.phase old sending s.waits },
  record { ready = s.ready; within = s.within; fit = s.fit; waits = tt },
)

unlike : (o : Option ℕ) (m : ℕ) → o ≡ None → o ≡ Some m → ⊥
unlike o m none some = absurd (cc)

submit_waits : (p : Phase) (m : ℕ) (old new : StepsView) → old.net.active ≡ Some m → new.waiting ≡ old.waiting → NoneWaits p old → NoneWaits p new
submit_waits Phase.Fresh m old new active same none = same ∙ none
submit_waits Phase.Resting m old new active same rest = absurd (unlike old.net.active m rest.0.idle active)
submit_waits Phase.Working m old new active same none = tt
submit_waits Phase.Exhausted m old new active same none = tt

pub submit_stepper : (call : Call) (old new : StepsView) → IsReadyStepper old → IsNetworkSubmitted call old.net new.net → new ≡ record old { net = new.net } →
    IsReadyStepper new
submit_stepper call old new s is result =
    let waiting : new.waiting ≡ old.waiting = ap (λ (v : StepsView). v.waiting) result in
    let phase : new.phase ≡ old.phase = ap (λ (v : StepsView). v.phase) result in
    record {
      ready = move_ready (Move.Submit call new.net) old.net s.ready is;
      within = move_within (Move.Submit call new.net) old.net is tt s.within;
      fit = rw waiting (fit_on (Move.Submit call new.net ∷ []) old.waiting old.waiting old.net new.net refl refl (is, refl) s.fit);
      waits = subst (λ (p : Phase). NoneWaits p new) (sym phase) (submit_waits old.phase is.m old new is.was_active waiting s.waits);
    }

pub tick_stepper : (ticks : ℕ) (old new : StepsView) → IsReadyStepper old → TakesTicks ticks old new → tick_refusal ticks old ≡ None → IsReadyStepper new
tick_stepper ticks old new s takes accepted =
    let rests = subst (λ (p : Phase). NoneWaits p old) (resting old _ accepted) s.waits in
    let waiting : new.waiting ≡ None = ap (λ (v : StepsView). v.waiting) takes.result ∙ rests.1 in
    let phase : new.phase ≡ Phase.Working = ap (λ (v : StepsView). v.phase) takes.result in
    let passes = no_fault (pass_refusal ticks old.net) (both_none (unrest old) _ accepted).1 in
    record {
      ready = move_ready (Move.Tick ticks new.net) old.net s.ready takes.passes;
      within = move_within (Move.Tick ticks new.net) old.net takes.passes (pass_far ticks old.net rests.0 passes) s.within;
      fit = rw waiting tt;
      waits = rw phase tt;
    }

-- ---- an input of a mote

below : {X : Type 0} (xs : List X) (m : ℕ) (x : X) → slice_get xs m ≡ Some x → m < length xs
below [] m x h = absurd (cc)
below (z ∷ xs) zero x h = omega arith
below (z ∷ xs) (suc m) x h = let less = below xs m x h in omega (arith, less)

outside_by : (b none : Bool) (o : Option StepsFault) →
    (if none then Some StepsFault.NoMote else if b then o else Some (StepsFault.Refused SessionRefusal.NoInput)) ≡ None → b ≡ true
outside_by true none o e = refl
outside_by false true o e = absurd (cc)
outside_by false false o e = absurd (cc)

comes_from_outside : (input : Input) → is_from_outside input ≡ true → IsFromOutside input
comes_from_outside (Input.Tick n) e = absurd (cc)
comes_from_outside (Input.Serial bytes) e = record { timeless = refl; bytes = grind (arith, nat_tests) }
comes_from_outside (Input.Frame bytes) e = record { timeless = refl; bytes = grind (arith, nat_tests) }

module _ (m : ℕ) (input : Input) (old new : StepsView) (s : IsReadyStepper old) (takes : TakesFeed m input old new) (rests : IsResting old.net)
    (outside : IsFromOutside input) where
  abbrev one : Waiting
  one = record { mote = m; input = input }

  abbrev Kept : NetworkView → Type 0
  Kept net = IsReady net × IsWithin net × IsFit one net

  feed_kept : (behind : Bool) → is_behind old.net takes.told.mote ≡ behind → Kept new.net
  feed_kept true is =
      let tells = takes.told.told is in
      let move = Move.Tell m new.net in
      let ready = move_ready move old.net s.ready tells in (
        ready,
        move_within move old.net tells tt s.within,
        record {
          there = rw (same_length old.net.motes m tells.told.told.after new.net.motes tells.told.told.others)
              (below old.net.motes m takes.told.mote takes.told.there);
          outside = outside;
          caught = inl (told_caught m old.net new.net ready tells);
        },
      )
  feed_kept false is =
      let same : new.net ≡ old.net = takes.told.untold is in
      subst Kept (sym same) (
        s.ready,
        s.within,
        record {
          there = below old.net.motes m takes.told.mote takes.told.there;
          outside = outside;
          caught = inr (rests, untold_on_time m old.net takes.told.mote takes.told.there is);
        },
      )

  feed_stepper_by : IsReadyStepper new
  feed_stepper_by =
      let kept = feed_kept (is_behind old.net takes.told.mote) refl in
      let waiting : new.waiting ≡ Some one = ap (λ (v : StepsView). v.waiting) takes.result in
      let phase : new.phase ≡ Phase.Working = ap (λ (v : StepsView). v.phase) takes.result in
      record { ready = kept.0; within = kept.1; fit = rw waiting kept.2; waits = rw phase tt }

pub feed_stepper : (m : ℕ) (input : Input) (old new : StepsView) → IsReadyStepper old → TakesFeed m input old new → steps.feed_refusal m input old ≡ None →
    IsReadyStepper new
feed_stepper m input old new s takes accepted =
    let rests = subst (λ (p : Phase). NoneWaits p old) (resting old _ accepted) s.waits in
    let from : is_from_outside input ≡ true = outside_by (is_from_outside input) _ _ (both_none (unrest old) _ accepted).1 in
    feed_stepper_by m input old new s takes rests.0 (comes_from_outside input from)

-- ---- what is refused

full : (cause : NetworkFault) → IsTooMuch cause → AwaitsOrIsFull (fault_of cause)
full cause (inl long) = inr (ap fault_of long)
full cause (inr many) = inr (ap fault_of many)

turn_by : (turn : Option AwaitedCall) (cause : NetworkFault) →
    (if is_some turn then Some (NetworkFault.Refused SessionRefusal.AwaitsCall) else None) ≡ Some cause → AwaitsOrIsFull (fault_of cause)
turn_by None cause e = absurd (cc)
turn_by (Some turn) cause e = let same : cause ≡ NetworkFault.Refused SessionRefusal.AwaitsCall = cc in inl (ap fault_of same)

work_by : (o : Option SessionView) (cause : NetworkFault) → work_refusal o ≡ Some cause → AwaitsOrIsFull (fault_of cause)
work_by None cause e = absurd (cc)
work_by (Some mote) cause e = turn_by mote.turn cause e

step_by : (net : NetworkView) → IsReady net → IsWithin net → (cause : NetworkFault) → step_refusal net ≡ Some cause → AwaitsOrIsFull (fault_of cause)
step_by net ready within cause why = by_active net.active refl
  where
    by_active : (o : Option ℕ) → net.active ≡ o → AwaitsOrIsFull (fault_of cause)
    by_active (Some m) e = work_by (slice_get net.motes m) cause (rw e at why)
    by_active None e = full cause (step_refused net ready (none_awaits net ready.awaits e) within cause why)

-- the input that is left is for a mote that has got the time
left_refused : (left : Option Waiting) (net : NetworkView) (cause : NetworkFault) → IsReady net → IsWithin net → IsFitIf left net →
    RefusesInput left net cause → IsTooMuch cause
left_refused None net cause ready within fit refuses = absurd refuses
left_refused (Some w) net cause ready within fit refuses =
    fed_refused net ready (none_awaits net ready.awaits refuses.0.idle) within w.mote w.input cause refuses.0 fit.outside fit.there
    (on_time_by w.mote net fit.caught) refuses.1 refuses.2

pub input_refused : (s : StepsView) (cause : NetworkFault) → IsReadyStepper s → RefusesInput s.waiting s.net cause → IsTooMuch cause
input_refused s cause ready refuses = left_refused s.waiting s.net cause ready.ready ready.within ready.fit refuses

either_refused : (left : Option Waiting) (net : NetworkView) (cause : NetworkFault) → IsReady net → IsWithin net → IsFitIf left net →
    (step_refusal net ≡ Some cause) ⊎ RefusesInput left net cause → AwaitsOrIsFull (fault_of cause)
either_refused left net cause ready within fit (inl step) = step_by net ready within cause step
either_refused left net cause ready within fit (inr input) = full cause (left_refused left net cause ready within fit input)

pub next_refused : (s : StepsView) (fault : StepsFault) (new : NetworkView) → IsReadyStepper s → IsRefused fault s.net s.waiting new → AwaitsOrIsFull fault
next_refused s fault new ready is =
    let w = is.way in
    let silent = silent_ready s.net new s.waiting is.left ready.ready ready.within ready.fit w in
    subst AwaitsOrIsFull (sym is.reported) (either_refused is.left new is.cause silent.0 silent.1 silent.2 is.refuses)

pub stops_refused : (s : StepsView) (cause : NetworkFault) (new : NetworkView) (before after : Voices) → IsReadyStepper s → StopsBy cause s new before after →
    AwaitsOrIsFull (fault_of cause)
stops_refused s cause new before after ready stops = next_refused s (fault_of cause) new ready (refused_by stops)
