-- Steps of a run, one after the other.
use Rattle.std.proofs.Common.{◌≡◌, ◌⊎◌, ℕ, ◌+◌, ◌-◌, Bool, true, false, List, [], ◌∷◌, ◌++◌, refl, ap, sym, subst, ◌∙◌, slice_get, Option, Some, None, Result, arith, inl, inr}
use Rattle.mote_session.specs.Voices.{Voices}
use Rattle.network_session.specs.Network.{NetworkView}
use Rattle.mote_types.specs.declared.entry.Input.{Input}
use Rattle.network_session.specs.Refusals.{feed_refusal, step_refusal}
use Rattle.network_session.specs.declared.fault.NetworkFault.{NetworkFault}
use Rattle.network_steps.specs.Code.Going.{GoesBy, PassesBy, StopsBy}
use Rattle.network_steps.specs.Code.Turns.{is_end, is_open}
use Rattle.network_steps.specs.NetworkRuns.{is_halted_in}
use Rattle.network_steps.specs.StepsView.{StepsView}
use Rattle.network_steps.specs.Works.{RefusesInput, came_lines, phase_after}
use Rattle.network_steps.specs.declared.came.Came.{Came}
use Rattle.network_steps.specs.declared.came.Phase.{Phase}
use Rattle.network_steps.specs.declared.came.Waiting.{Waiting}
use Rattle.network_steps.specs.declared.input.NetworkInput.{NetworkInput}
use Rattle.mote_text.specs.Code.Writing.{WritesOn}
use Rattle.network_run.specs.Code.Ready.{IsFitIf, IsReady, IsWithin}
use Rattle.network_run.specs.Code.Way.{Faulted, Moment, Stopped, RestsIf, Takes, TakesIf, Went, moment, outside_waiting}
use Rattle.network_run.specs.Code.Reports.{rests_after}
use Rattle.network_run.specs.NetworkRunText.{AwaitsNone, IsTooMuch, Refuses}
use Rattle.network_run.specs.Outside.{Outside, refusal_of}
use Rattle.network_run.specs.declared.fault.NetworkRunFault.{NetworkRunFault}
use Rattle.network_run.proofs.Caught.{fit_on, on_time_by}
use Rattle.network_run.proofs.Ready.{leads_awaits, leads_ready}
use Rattle.network_run.proofs.Refused.{fed_refused, step_refused}
use Rattle.network_run.proofs.Ways.{came_by, needs_no_reason, only_write, refuses_nothing, stopped_on, takes_after, went_nowhere, went_silently}

-- what is so after what was reported
pub works_on : (came : Came) → is_end came ≡ false → phase_after came ≡ Phase.Working
works_on (Came.Turn m) on = refl
works_on (Came.Entry m) on = refl
works_on Came.Clock on = refl
works_on (Came.Lost from to) on = refl
works_on (Came.Full from to) on = refl
works_on (Came.Missed from to) on = refl
works_on (Came.Unheard m) on = refl
works_on Came.Rest on = absurd (cc)
works_on Came.Exhausted on = absurd (cc)

pub goes_working : {came : Came} {old new : StepsView} {voices later : Voices} → GoesBy came old new voices later → is_end came ≡ false → new.phase ≡ Phase.Working
goes_working {came} g on = g.goes.phase ∙ works_on came on

pub ends_not : (came : Came) → None ≡ rests_after came → is_end came ≡ false
ends_not Came.Rest e = absurd (cc)
ends_not Came.Exhausted e = absurd (cc)
ends_not (Came.Turn m) e = refl
ends_not (Came.Entry m) e = refl
ends_not Came.Clock e = refl
ends_not (Came.Lost from to) e = refl
ends_not (Came.Full from to) e = refl
ends_not (Came.Missed from to) e = refl
ends_not (Came.Unheard m) e = refl

-- where nothing follows
pub rests_so : {old new : StepsView} {voices later : Voices} (came : Came) (rests : Bool) → Some rests ≡ rests_after came → GoesBy came old new voices later →
    RestsIf rests new
rests_so Came.Rest true end g = record { rests = g.goes.is_came.0; phase = g.goes.phase; sending = g.sending; waiting = g.goes.is_came.1 }
rests_so Came.Exhausted false end g = record { idle = g.goes.is_came.0; due = g.goes.is_came.1 }
rests_so Came.Rest false end g = absurd (cc)
rests_so Came.Exhausted true end g = absurd (cc)
rests_so (Came.Turn m) rests end g = absurd (cc)
rests_so (Came.Entry m) rests end g = absurd (cc)
rests_so Came.Clock rests end g = absurd (cc)
rests_so (Came.Lost from to) rests end g = absurd (cc)
rests_so (Came.Full from to) rests end g = absurd (cc)
rests_so (Came.Missed from to) rests end g = absurd (cc)
rests_so (Came.Unheard m) rests end g = absurd (cc)

pub fit_passed : {old new : StepsView} {voices later : Voices} → PassesBy old new voices later → IsFitIf old.waiting old.net → IsFitIf new.waiting new.net
fit_passed {old} {new} p fit = fit_on p.way.moves old.waiting new.waiting old.net new.net p.way.inputs p.way.untold p.way.leads fit

pub fit_gone : {came : Came} {old new : StepsView} {voices later : Voices} → GoesBy came old new voices later → IsFitIf old.waiting old.net →
    IsFitIf new.waiting new.net
fit_gone {old = old} {new = new} g fit = fit_on g.goes.moves old.waiting new.waiting old.net new.net g.goes.inputs g.goes.untold g.goes.leads fit

module _ (quiet : Bool) where
  pub stopped_nowhere : (outside : List Outside) (here : Moment) → Stopped quiet outside outside here.due here here
  stopped_nowhere outside here = record { carried = []; parts = refl; went = went_nowhere quiet here }

  -- a step that was reported, whose lines are written
  pub goes_further : {outside : List Outside} {came : Came} {old new : StepsView} {given due given_later due_later : List ℕ} {voices later : Voices} {from : Moment} →
      old.sending ≡ None → Stopped quiet outside (outside_waiting old.waiting) due from (moment given due old.net voices) → (g : GoesBy came old new voices later) →
      is_open came ≡ false → WritesOn given due given_later due_later (came_lines quiet came new.net) →
      Stopped quiet outside (outside_waiting new.waiting) due_later from (moment given_later due_later new.net later)
  goes_further {due_later = due_later} none so_far g closed writes = stopped_on quiet so_far (came_by quiet {due_later = due_later} none g closed writes)

  -- one that isn't
  pub passes_further : {outside : List Outside} {old new : StepsView} {given due : List ℕ} {voices later : Voices} {from : Moment} →
      Stopped quiet outside (outside_waiting old.waiting) due from (moment given due old.net voices) → PassesBy old new voices later →
      Stopped quiet outside (outside_waiting new.waiting) due from (moment given due new.net later)
  passes_further so_far p = stopped_on quiet so_far (went_silently quiet p.way p.calls)

  -- nothing follows
  pub takes_end : {outside : List Outside} {old new : StepsView} {given due : List ℕ} {voices later : Voices} {from : Moment} (came : Came) (rests : Bool) →
      Some rests ≡ rests_after came → GoesBy came old new voices later →
      Stopped quiet outside (outside_waiting new.waiting) due from (moment given due new.net later) → Takes quiet outside rests from (moment given due new.net later)
  takes_end {new = new} Came.Rest rests end g stopped =
      record { left = outside_waiting new.waiting; all = λ yes. ap outside_waiting g.goes.is_came.1; stopped = stopped }
  takes_end {new = new} Came.Exhausted rests end g stopped =
      record { left = outside_waiting new.waiting; all = λ yes. absurd (let e : Some rests ≡ Some false = end in cc); stopped = stopped }
  takes_end (Came.Turn m) rests end g stopped = absurd (cc)
  takes_end (Came.Entry m) rests end g stopped = absurd (cc)
  takes_end Came.Clock rests end g stopped = absurd (cc)
  takes_end (Came.Lost from to) rests end g stopped = absurd (cc)
  takes_end (Came.Full from to) rests end g stopped = absurd (cc)
  takes_end (Came.Missed from to) rests end g stopped = absurd (cc)
  takes_end (Came.Unheard m) rests end g stopped = absurd (cc)

  -- what was reported couldn't be written
  pub faulted_at : {outside : List Outside} {came : Came} {old new : StepsView} {given due given_later due_later lost : List ℕ} {voices later : Voices} {from : Moment}
      (fault : NetworkRunFault) → fault ≡ NetworkRunFault.Write → old.sending ≡ None →
      Stopped quiet outside (outside_waiting old.waiting) due from (moment given due old.net voices) → (g : GoesBy came old new voices later) → is_open came ≡ false →
      WritesOn given due given_later lost (came_lines quiet came new.net) → Faulted quiet outside fault from (moment given_later due_later new.net later)
  faulted_at {new = new} {due_later = due_later} {lost = lost} {later = later} {from = from} fault write none so_far g closed writes = record {
    left = outside_waiting new.waiting;
    why = needs_no_reason fault new.net (outside_waiting new.waiting) write;
    much = refuses_nothing fault from.net write;
    lost = lost;
    kept = only_write fault write;
    voices = later;
    stopped = stopped_on quiet so_far (came_by quiet {due_later = due_later} none g closed writes);
  }

  fed_refusal : (m : ℕ) (input : Input) (net : NetworkView) (fault : NetworkFault) → is_halted_in (slice_get net.motes m) ≡ false →
      feed_refusal m input net ≡ Some fault → refusal_of (Outside.Given (NetworkInput.ForMote (m + 1) input)) net ≡ Some fault
  fed_refusal m input net fault up is = let same : m + 1 - 1 ≡ m = omega arith in rw (same, up) is

  -- the network refuses its next step, or the input that waits
  refuses_left : (cause : NetworkFault) (left : Option Waiting) (net : NetworkView) → (step_refusal net ≡ Some cause) ⊎ RefusesInput left net cause →
      Refuses net (outside_waiting left) cause
  refuses_left cause left net (inl step) = inl step
  refuses_left cause None net (inr none) = absurd none
  refuses_left cause (Some w) net (inr input) = inr (input.0, fed_refusal w.mote w.input net cause input.1 input.2)

  too_much : (cause : NetworkFault) (left : Option Waiting) (net : NetworkView) → IsReady net → AwaitsNone net → IsWithin net → IsFitIf left net →
      (step_refusal net ≡ Some cause) ⊎ RefusesInput left net cause → IsTooMuch cause
  too_much cause left net ready none within fit (inl step) = step_refused net ready none within cause step
  too_much cause None net ready none within fit (inr refuses) = absurd refuses
  too_much cause (Some w) net ready none within fit (inr input) =
      fed_refused net ready none within w.mote w.input cause input.0 fit.outside fit.there (on_time_by w.mote net fit.caught)
      input.1 input.2

  pub stops_at : {outside : List Outside} {old : StepsView} {new : NetworkView} {given due : List ℕ} {voices spoken later : Voices} {from : Moment} (cause : NetworkFault) →
      Stopped quiet outside (outside_waiting old.waiting) due from (moment given due old.net voices) → StopsBy cause old new voices spoken →
      (IsReady from.net → IsFitIf old.waiting old.net) → Faulted quiet outside (NetworkRunFault.Refused cause) from (moment given due new later)
  stops_at {outside} {old} {new} {given} {due} {voices} {spoken} {later} {from} cause so_far s fit =
      let all = stopped_on quiet so_far
      (went_silently quiet s.way s.calls) in
      record {
        left = outside_waiting s.left;
        why = refuses_left cause s.left new s.refuses;
        much = λ ready none within.
            let w = all.went in
            too_much cause s.left new (leads_ready w.moves from.net new ready w.leads) (leads_awaits w.moves from.net new none w.leads w.answered) (w.within within)
            (fit_on s.way.moves old.waiting s.left old.net new s.way.inputs s.way.untold s.way.leads (fit ready)) s.refuses;
        lost = due;
        kept = λ not. refl;
        voices = spoken;
        stopped = all;
      }

  -- an input that was submitted, and what follows
  pub takes_on : {outside left : List Outside} (result : Result Bool NetworkRunFault) (from mid to : Moment) → Stopped quiet outside left mid.due from mid →
      TakesIf result quiet left mid to → TakesIf result quiet outside from to
  takes_on {outside} {left} result from mid to first takes =
      subst (λ (all : List Outside). TakesIf result quiet all from to) (sym first.parts) (takes_after quiet result first.carried left from mid to first.went takes)

-- what is left of nothing
pub none_carried : {quiet : Bool} {rests : Bool} {from to : Moment} → Takes quiet [] rests from to → Went quiet [] from to
none_carried {quiet} {rests} {from} {to} takes =
    subst (λ (all : List Outside). Went quiet all from to) (none_first takes.stopped.carried takes.left (sym takes.stopped.parts)) takes.stopped.went
  where
    none_first : (first second : List Outside) → first ++ second ≡ [] → first ≡ []
    none_first [] second e = refl
    none_first (x ∷ first) second e = absurd (cc)
