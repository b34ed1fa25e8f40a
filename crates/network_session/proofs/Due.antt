-- What is due.
use Rattle.std.proofs.Common.{◌≡◌, ℕ, zero, suc, ◌<◌, ◌≤◌, ◌==◌, ◌||◌, List, [], ◌∷◌, length, get_or, slice_get, refl, ap, sym, ◌∙◌, arith, Bool, true, false, Option, Some, None, IsSomeAnd, is_some, nat_le, nat_lt, if◌then◌else◌}
use Rattle.std.proofs.lemmas.Bool.Decides.{nat_tests}
use Rattle.arrayvec.specs.ArrayVec.{ArrayVec}
use Rattle.network_session.specs.Alarms.{first_come}
use Rattle.medium_core.specs.Air.{arrival}
use Rattle.medium_core.specs.Flights.{IsSeenAs}
use Rattle.medium_core.specs.declared.flight.Flight.{Flight}
use Rattle.mote_session.specs.SessionView.{SessionView}
use Rattle.network_session.specs.Network.{NetworkView, wakes_of}
use Rattle.network_session.specs.Schedule.{arriving, due_now, due_step, hearing, is_rest, waking}
use Rattle.network_session.specs.declared.outcome.Outcome.{Outcome}

-- neither a start nor the end of the steps
abbrev pub is_plain : Outcome → Bool
is_plain (Outcome.Started m) = false
is_plain Outcome.Rest = false
is_plain Outcome.Exhausted = false
is_plain _ = true

-- what is due is due now
pub record IsDueNow (net : NetworkView) (x : Outcome) : Type 0 where
  pub due : x ≡ due_now net
  pub all_started : length net.motes ≤ net.started
  pub some_left : 1 ≤ net.rounds

pub due_is : (net : NetworkView) (x : Outcome) → is_plain x ≡ true → x ≡ due_step net → IsDueNow net x
due_is net x plain h = by_tests (nat_lt net.started (length net.motes)) (net.rounds == 0) (is_rest (due_now net)) refl refl h
  where
    other : (y : Outcome) → is_plain y ≡ false → x ≡ y → ⊥
    other y z e = absurd (let t : is_plain x ≡ is_plain y = ap is_plain e in cc)

    by_tests : (s r t : Bool) → nat_lt net.started (length net.motes) ≡ s → (net.rounds == 0) ≡ r →
        x ≡ (if s then Outcome.Started net.started else if r then (if t then Outcome.Rest else Outcome.Exhausted) else due_now net) → IsDueNow net x
    by_tests true r t e f h = absurd (other (Outcome.Started net.started) refl h)
    by_tests false true true e f h = absurd (other Outcome.Rest refl h)
    by_tests false true false e f h = absurd (other Outcome.Exhausted refl h)
    by_tests false false t e f h = record { due = h; all_started = grind (arith, nat_tests); some_left = grind (arith, nat_tests) }

pub get_there : {X : Type 0} (xs : List X) (m : ℕ) (x : X) → m < length xs → x ≡ get_or xs m x → slice_get xs m ≡ Some x
get_there [] m x h e = absurd (omega arith)
get_there (z ∷ xs) zero x h e = ap (λ y. Some y) (sym e)
get_there (z ∷ xs) (suc m) x h e = get_there xs m x (omega arith) e

heard_of : (net : NetworkView) (due from to : ℕ) (bytes : ArrayVec ℕ) (mote : SessionView) →
    slice_get net.motes to ≡ Some mote → mote.machine.is_halted ≡ false → (length bytes.items == 0) ≡ false → net.air.clock ≤ mote.machine.clock →
    (o : Option Flight) → IsSomeAnd o (IsSeenAs due from to bytes) → Outcome.Heard to ≡ arriving net o
heard_of net due from to bytes mote there up full time None seen = absurd seen
heard_of net due from to bytes mote there up full time (Some f) seen =
    let on_time : nat_lt mote.machine.clock net.air.clock ≡ false = grind (arith, nat_tests) in
    rw (seen.is_for, there) (rw (up, seen.holds, full, on_time) refl)

pub heard_due : (net : NetworkView) (due from to : ℕ) (bytes : ArrayVec ℕ) (mote : SessionView) →
    slice_get net.motes to ≡ Some mote → mote.machine.is_halted ≡ false → (length bytes.items == 0) ≡ false → net.air.clock ≤ mote.machine.clock →
    IsSomeAnd (arrival net.air) (IsSeenAs due from to bytes) → Outcome.Heard to ≡ arriving net (arrival net.air)
heard_due net due from to bytes mote there up full time seen = heard_of net due from to bytes mote there up full time (arrival net.air) seen

pub none_active : (o : Option ℕ) → false ≡ is_some o → o ≡ None
none_active None h = refl
none_active (Some m) h = absurd (cc)

-- what is due, by what is left

pub due_left : (net : NetworkView) → length net.motes ≤ net.started → (net.rounds == 0) ≡ false → due_step net ≡ due_now net
due_left net all left =
    let test : nat_lt net.started (length net.motes) ≡ false = grind (arith, nat_tests) in
    rw (test, left) refl

pub due_rest : (net : NetworkView) → length net.motes ≤ net.started → (net.rounds == 0) ≡ true → is_rest (due_now net) ≡ true → due_step net ≡ Outcome.Rest
due_rest net all spent rest =
    let test : nat_lt net.started (length net.motes) ≡ false = grind (arith, nat_tests) in
    rw (test, spent, rest) refl

pub due_exhausted : (net : NetworkView) → length net.motes ≤ net.started → (net.rounds == 0) ≡ true → is_rest (due_now net) ≡ false →
    due_step net ≡ Outcome.Exhausted
due_exhausted net all spent rest =
    let test : nat_lt net.started (length net.motes) ≡ false = grind (arith, nat_tests) in
    rw (test, spent, rest) refl

pub busy_waking : (net : NetworkView) (m : ℕ) → first_come net.air.clock (wakes_of net.motes) ≡ Some m → is_rest (due_now net) ≡ false
busy_waking net m h = ap (λ (o : Option ℕ). is_rest (waking net o)) h

hearing_busy : (clock : ℕ) (f : Flight) (o : Option SessionView) → is_rest (hearing clock f o) ≡ false
hearing_busy clock f None = refl
hearing_busy clock f (Some mote) = by_tests (mote.machine.is_halted || length f.bytes.items == 0) (nat_lt mote.machine.clock clock)
  where
    by_tests : (a b : Bool) → is_rest (if a then Outcome.Missed f.from f.to else if b then Outcome.Woken f.to else Outcome.Heard f.to) ≡ false
    by_tests true b = refl
    by_tests false true = refl
    by_tests false false = refl

pub busy_arriving : (net : NetworkView) (f : Flight) → first_come net.air.clock (wakes_of net.motes) ≡ None → arrival net.air ≡ Some f →
    is_rest (due_now net) ≡ false
busy_arriving net f none h =
    ap (λ (o : Option ℕ). is_rest (waking net o)) none
    ∙ (ap (λ (o : Option Flight). is_rest (arriving net o)) h ∙ hearing_busy net.air.clock f (slice_get net.motes f.to))

pub done_passing : (net : NetworkView) → first_come net.air.clock (wakes_of net.motes) ≡ None → arrival net.air ≡ None →
    is_rest (due_now net) ≡ nat_le net.target net.air.clock
done_passing net none still =
    ap (λ (o : Option ℕ). is_rest (waking net o)) none
    ∙ (ap (λ (o : Option Flight). is_rest (arriving net o)) still ∙ by_test (nat_lt net.air.clock net.target) refl)
  where
    by_test : (b : Bool) → nat_lt net.air.clock net.target ≡ b → is_rest (if b then Outcome.Clock else Outcome.Rest) ≡ nat_le net.target net.air.clock
    by_test true e = grind (arith, nat_tests)
    by_test false e = grind (arith, nat_tests)
