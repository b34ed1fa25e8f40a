-- Why a step isn't made.
use Rattle.std.proofs.Common.{◌∙◌, if◌then◌else◌, ◌≡◌, ◌<◌, ◌==◌, ℕ, zero, suc, true, false, List, [], ◌∷◌, length, slice_get, refl, arith, nat_lt, Option, None, Some, IsSomeAnd, Result, Ok, Err, IfErr, is_some, subst, sym}
use Rattle.std.specs.Result.{IsErrAnd}
use Rattle.std.proofs.lemmas.Bool.Decides.{nat_tests}
use Rattle.arrayvec.specs.ArrayVec.{ArrayVec}
use Rattle.medium_core.specs.Air.{arrival}
use Rattle.medium_core.specs.Flights.{IsSeenAs}
use Rattle.medium_core.specs.declared.flight.Flight.{Flight}
use Rattle.mote_session.specs.SessionView.{SessionView}
use Rattle.mote_types.specs.declared.entry.Input.{Input}
use Rattle.network_session.specs.Network.{NetworkView}
use Rattle.network_session.specs.Refusals.{frame_refusal, mote_at_work, mote_refusal, outcome_refusal, passed_refusal, step_refusal, work_refusal}
use Rattle.network_session.specs.Schedule.{arriving, due_step}
use Rattle.network_session.specs.Waking.{due_tick}
use Rattle.network_session.specs.declared.fault.NetworkFault.{NetworkFault}
use Rattle.network_session.specs.declared.outcome.Outcome.{Outcome}

some_within : {X : Type 0} (xs : List X) (m : ℕ) → m < length xs → slice_get xs m ≡ None → ⊥
some_within [] m within none = absurd (omega (arith, within))
some_within (x ∷ xs) zero within none = absurd (cc)
some_within (x ∷ xs) (suc m) within none = some_within xs m (omega (arith, within)) none

-- a mote that exists refuses what is passed to it
pub passed_refused : (input : SessionView → Input) (motes : List SessionView) (m : ℕ) (fault : NetworkFault) → m < length motes →
    ((mote : SessionView) → slice_get motes m ≡ Some mote → mote_refusal (input mote) mote ≡ Some fault) → passed_refusal input (slice_get motes m) ≡ Some fault
passed_refused input motes m fault within why = by_mote (slice_get motes m) refl
  where
    by_mote : (o : Option SessionView) → slice_get motes m ≡ o → passed_refusal input o ≡ Some fault
    by_mote None e = absurd (some_within motes m within e)
    by_mote (Some mote) e = why mote e

-- a mote refuses the frame that arrives for it
frame_refused_by : (motes : List SessionView) (due from to : ℕ) (bytes : ArrayVec ℕ) (fault : NetworkFault) → to < length motes →
    ((mote : SessionView) → slice_get motes to ≡ Some mote → mote_refusal (Input.Frame bytes) mote ≡ Some fault) →
    (o : Option Flight) → IsSomeAnd o (IsSeenAs due from to bytes) → frame_refusal o (slice_get motes to) ≡ Some fault
frame_refused_by motes due from to bytes fault within why None seen = absurd seen
frame_refused_by motes due from to bytes fault within why (Some flight) seen =
    passed_refused (λ one. Input.Frame flight.bytes) motes to fault within (λ mote there. rw seen.holds (why mote there))

pub frame_refused : (net : NetworkView) (due from to : ℕ) (bytes : ArrayVec ℕ) (fault : NetworkFault) → to < length net.motes →
    IsSomeAnd (arrival net.air) (IsSeenAs due from to bytes) →
    ((mote : SessionView) → slice_get net.motes to ≡ Some mote → mote_refusal (Input.Frame bytes) mote ≡ Some fault) →
    outcome_refusal (Outcome.Heard to) net ≡ Some fault
frame_refused net due from to bytes fault within seen why = frame_refused_by net.motes due from to bytes fault within why (arrival net.air) seen

-- a mote refuses the time
pub time_refused : (net : NetworkView) (m : ℕ) (fault : NetworkFault) → m < length net.motes →
    ((mote : SessionView) → slice_get net.motes m ≡ Some mote → mote_refusal (due_tick net.air.clock mote) mote ≡ Some fault) →
    outcome_refusal (Outcome.Woken m) net ≡ Some fault
time_refused net m fault within why = passed_refused (due_tick net.air.clock) net.motes m fault within why

woken_of : (net : NetworkView) (due from to : ℕ) (bytes : ArrayVec ℕ) (mote : SessionView) →
    slice_get net.motes to ≡ Some mote → mote.machine.is_halted ≡ false → (length bytes.items == 0) ≡ false → mote.machine.clock < net.air.clock →
    (o : Option Flight) → IsSomeAnd o (IsSeenAs due from to bytes) → arriving net o ≡ Outcome.Woken to
woken_of net due from to bytes mote there up full late None seen = absurd seen
woken_of net due from to bytes mote there up full late (Some f) seen =
    let behind : nat_lt mote.machine.clock net.air.clock ≡ true = grind (arith, nat_tests) in
    rw (seen.is_for, there) (rw (up, seen.holds, full, behind) refl)

pub woken_due : (net : NetworkView) (due from to : ℕ) (bytes : ArrayVec ℕ) (mote : SessionView) →
    slice_get net.motes to ≡ Some mote → mote.machine.is_halted ≡ false → (length bytes.items == 0) ≡ false → mote.machine.clock < net.air.clock →
    IsSomeAnd (arrival net.air) (IsSeenAs due from to bytes) → arriving net (arrival net.air) ≡ Outcome.Woken to
woken_due net due from to bytes mote there up full late seen = woken_of net due from to bytes mote there up full late (arrival net.air) seen

when_idle : (active : Option ℕ) → active ≡ None → (working idle : Option NetworkFault) → (if is_some active then working else idle) ≡ idle
when_idle None none working idle = refl
when_idle (Some m) none working idle = absurd (cc)

-- what is refused of a step that is due is refused of the step
pub refused_step : {T : Type 0} (result : Result T NetworkFault) (net : NetworkView) (outcome : Outcome) → net.active ≡ None → due_step net ≡ outcome →
    IfErr result (λ fault. outcome_refusal outcome net ≡ Some fault) → IfErr result (λ fault. step_refusal net ≡ Some fault)
refused_step (Ok x) net outcome idle due refused = tt
refused_step (Err fault) net outcome idle due refused =
    when_idle net.active idle (work_refusal (mote_at_work net net.active)) (outcome_refusal (due_step net) net)
    ∙ subst (λ (o : Outcome). outcome_refusal o net ≡ Some fault) (sym due) refused

pub refused_time : {T : Type 0} (result : Result T NetworkFault) (net : NetworkView) (m : ℕ) → m < length net.motes →
    IfErr result (λ fault. (mote : SessionView) → slice_get net.motes m ≡ Some mote →
    mote_refusal (due_tick net.air.clock mote) mote ≡ Some fault) →
    IfErr result (λ fault. outcome_refusal (Outcome.Woken m) net ≡ Some fault)
refused_time (Ok x) net m within why = tt
refused_time (Err fault) net m within why = time_refused net m fault within why

-- a fault that is handed on is refused of what arrives
pub refused_arrival : {T : Type 0} (result : Result T NetworkFault) (net : NetworkView) (outcome : Outcome) (fault : NetworkFault) →
    IsErrAnd result (λ handed. handed ≡ fault) → arriving net (arrival net.air) ≡ outcome → outcome_refusal outcome net ≡ Some fault →
    IfErr result (λ fault. outcome_refusal (arriving net (arrival net.air)) net ≡ Some fault)
refused_arrival (Ok x) net outcome fault is due refused = absurd is
refused_arrival (Err handed) net outcome fault is due refused =
    rw is (subst (λ (o : Outcome). outcome_refusal o net ≡ Some fault) (sym due) refused)

pub refused_due : {T : Type 0} (result : Result T NetworkFault) (net : NetworkView) (outcome : Outcome) → arriving net (arrival net.air) ≡ outcome →
    IfErr result (λ fault. outcome_refusal outcome net ≡ Some fault) → IfErr result (λ fault. outcome_refusal (arriving net (arrival net.air)) net ≡ Some fault)
refused_due (Ok x) net outcome due refused = tt
refused_due (Err fault) net outcome due refused = subst (λ (o : Outcome). outcome_refusal o net ≡ Some fault) (sym due) refused
