-- Which frames are heard.
use Rattle.std.proofs.Common.{◌≡◌, ℕ, ◌==◌, ◌||◌, length, slice_get, refl, ap, Bool, true, false, Option, Some, None, IsSomeAnd, nat_lt, if◌then◌else◌}
use Rattle.network_session.specs.Alarms.{first_come}
use Rattle.medium_core.specs.Air.{arrival}
use Rattle.medium_core.specs.declared.flight.Flight.{Flight}
use Rattle.mote_session.specs.SessionView.{SessionView}
use Rattle.network_session.specs.Network.{NetworkView, wakes_of}
use Rattle.network_session.specs.Schedule.{arriving, due_step, hearing, is_unheard, waking}
use Rattle.network_session.proofs.Due.{due_is, is_plain}
use Rattle.network_session.specs.declared.outcome.Outcome.{Outcome}

-- neither the start of a mote, nor its waking, nor the end of the steps
settles : Outcome → Bool
settles (Outcome.Started m) = false
settles (Outcome.Woken m) = false
settles Outcome.Rest = false
settles Outcome.Exhausted = false
settles _ = true

due_arriving : (net : NetworkView) (x : Outcome) → settles x ≡ true → is_plain x ≡ true → x ≡ due_step net → x ≡ arriving net (arrival net.air)
unfolding settles
due_arriving net x s plain h = by_option (first_come net.air.clock (wakes_of net.motes)) (due_is net x plain h).due
  where
    by_option : (o : Option ℕ) → x ≡ waking net o → x ≡ arriving net (arrival net.air)
    by_option None e = e
    by_option (Some k) e = absurd (let t : settles x ≡ false = ap settles e in cc)

-- nobody hears the flight
abbrev IsMissed : ℕ → ℕ → Option SessionView → Flight → Type 0
IsMissed from to o f = (f.from ≡ from) × (f.to ≡ to) × (is_unheard f o ≡ true)

missed_hearing : (clock from to : ℕ) (f : Flight) (o : Option SessionView) → Outcome.Missed from to ≡ hearing clock f o → IsMissed from to o f
missed_hearing clock from to f None h = (cc, cc, refl)
missed_hearing clock from to f (Some mote) h = by_tests (mote.machine.is_halted || length f.bytes.items == 0) (nat_lt mote.machine.clock clock) h
  where
    by_tests : (a b : Bool) → Outcome.Missed from to ≡ (if a then Outcome.Missed f.from f.to else if b then Outcome.Woken f.to else Outcome.Heard f.to) →
        (f.from ≡ from) × (f.to ≡ to) × (a ≡ true)
    by_tests true b e = (cc, cc, refl)
    by_tests false true e = absurd (cc)
    by_tests false false e = absurd (cc)

heard_hearing : (clock m : ℕ) (f : Flight) (o : Option SessionView) → Outcome.Heard m ≡ hearing clock f o → (f.to ≡ m) × (is_unheard f o ≡ false)
heard_hearing clock m f None h = absurd (cc)
heard_hearing clock m f (Some mote) h = by_tests (mote.machine.is_halted || length f.bytes.items == 0) (nat_lt mote.machine.clock clock) h
  where
    by_tests : (a b : Bool) → Outcome.Heard m ≡ (if a then Outcome.Missed f.from f.to else if b then Outcome.Woken f.to else Outcome.Heard f.to) → (f.to ≡ m) × (a ≡ false)
    by_tests true b e = absurd (cc)
    by_tests false true e = absurd (cc)
    by_tests false false e = (let same : f.to ≡ m = cc in same, refl)

no_passing : (from to : ℕ) (b : Bool) → Outcome.Missed from to ≡ (if b then Outcome.Clock else Outcome.Rest) → ⊥
no_passing from to true h = absurd (cc)
no_passing from to false h = absurd (cc)

no_passing_heard : (m : ℕ) (b : Bool) → Outcome.Heard m ≡ (if b then Outcome.Clock else Outcome.Rest) → ⊥
no_passing_heard m true h = absurd (cc)
no_passing_heard m false h = absurd (cc)

missed_arriving : (net : NetworkView) (from to : ℕ) (o : Option Flight) → Outcome.Missed from to ≡ arriving net o →
    IsSomeAnd o (λ f. IsMissed from to (slice_get net.motes f.to) f)
missed_arriving net from to None h = absurd (no_passing from to (nat_lt net.air.clock net.target) h)
missed_arriving net from to (Some f) h = missed_hearing net.air.clock from to f (slice_get net.motes f.to) h

heard_arriving : (net : NetworkView) (m : ℕ) (o : Option Flight) → Outcome.Heard m ≡ arriving net o →
    IsSomeAnd o (λ f. (f.to ≡ m) × (is_unheard f (slice_get net.motes f.to) ≡ false))
heard_arriving net m None h = absurd (no_passing_heard m (nat_lt net.air.clock net.target) h)
heard_arriving net m (Some f) h = heard_hearing net.air.clock m f (slice_get net.motes f.to) h

not_clock : (clock : ℕ) (f : Flight) (o : Option SessionView) → Outcome.Clock ≡ hearing clock f o → ⊥
not_clock clock f None h = absurd (cc)
not_clock clock f (Some mote) h = by_tests (mote.machine.is_halted || length f.bytes.items == 0) (nat_lt mote.machine.clock clock) h
  where
    by_tests : (a b : Bool) → Outcome.Clock ≡ (if a then Outcome.Missed f.from f.to else if b then Outcome.Woken f.to else Outcome.Heard f.to) → ⊥
    by_tests true b e = absurd (cc)
    by_tests false true e = absurd (cc)
    by_tests false false e = absurd (cc)

clock_arriving : (net : NetworkView) (o : Option Flight) → Outcome.Clock ≡ arriving net o → o ≡ None
clock_arriving net None h = refl
clock_arriving net (Some f) h = absurd (not_clock net.air.clock f (slice_get net.motes f.to) h)

pub missed_due : (net : NetworkView) (from to : ℕ) → Outcome.Missed from to ≡ due_step net →
    IsSomeAnd (arrival net.air) (λ f. (f.from ≡ from) × (f.to ≡ to) × (is_unheard f (slice_get net.motes f.to) ≡ true))
unfolding settles
missed_due net from to h = missed_arriving net from to (arrival net.air) (due_arriving net (Outcome.Missed from to) refl refl h)

pub heard_due_by : (net : NetworkView) (m : ℕ) → Outcome.Heard m ≡ due_step net →
    IsSomeAnd (arrival net.air) (λ f. (f.to ≡ m) × (is_unheard f (slice_get net.motes f.to) ≡ false))
unfolding settles
heard_due_by net m h = heard_arriving net m (arrival net.air) (due_arriving net (Outcome.Heard m) refl refl h)

pub clock_due : (net : NetworkView) → Outcome.Clock ≡ due_step net → arrival net.air ≡ None
unfolding settles
clock_due net h = clock_arriving net (arrival net.air) (due_arriving net Outcome.Clock refl refl h)
