-- Whether a mote gets the time before an input, and why not.
use Rattle.std.proofs.Common.{◌≡◌, ℕ, ◌<◌, arith, Bool, true, false, not, ◌&&◌, nat_lt, slice_get, refl, sym, ◌∙◌, Option, None, Some, IsSomeAnd, Result, Ok, Err, IfOk, if◌then◌else◌}
use Rattle.std.proofs.lemmas.Bool.Decides.{nat_tests}
use Rattle.mote_session.specs.SessionView.{SessionView}
use Rattle.network_session.specs.Network.{NetworkView}
use Rattle.network_session.specs.Refusals.{catch_up_refusal}
use Rattle.network_session.specs.Steps.{IsToldTime}
use Rattle.network_session.specs.declared.fault.NetworkFault.{NetworkFault}
use Rattle.network_steps.specs.NetworkRuns.{IsResting, TellsTime, is_halted_in}
use Rattle.network_steps.specs.Refusals.{fault_if, told_refusal}
use Rattle.network_steps.specs.Works.{given_refusal, is_behind}

pub halted_not_behind : (net : NetworkView) (o : Option SessionView) (one : SessionView) → true ≡ is_halted_in o → o ≡ Some one → false ≡ is_behind net one
halted_not_behind net None one halted there = absurd (cc)
halted_not_behind net (Some mote) one halted there = let same : mote ≡ one = cc in rw (← same, ← halted) refl

late_if_up : (halted late : Bool) → false ≡ halted → late ≡ (not halted && late)
late_if_up true late up = absurd (cc)
late_if_up false late up = refl

pub behind_if_up : (r : Result Bool NetworkFault) (net : NetworkView) (o : Option SessionView) → false ≡ is_halted_in o →
    IfOk r (λ (given : Bool). IsSomeAnd o (λ (mote : SessionView). given ≡ nat_lt mote.machine.clock net.air.clock)) →
    IfOk r (λ (given : Bool). (one : SessionView) → o ≡ Some one → given ≡ is_behind net one)
behind_if_up (Ok given) net None up behind = absurd behind
behind_if_up (Ok given) net (Some mote) up behind = λ one there.
    let same : mote ≡ one = cc in
    rw (← same) (behind ∙ late_if_up mote.machine.is_halted (nat_lt mote.machine.clock net.air.clock) up)
behind_if_up (Err fault) net o up behind = tt

-- the refusal that a network's steps report is the same
pub refusal_is : (m : ℕ) (net : NetworkView) → (slice_get net.motes m ≡ None → ⊥) →
    told_refusal m (slice_get net.motes m) net ≡ fault_if (given_refusal m net)
refusal_is m net there = by_mote (slice_get net.motes m) there
  where
    by_halt : (halted : Bool) → (if halted then None else fault_if (catch_up_refusal m net)) ≡ fault_if (if halted then None else catch_up_refusal m net)
    by_halt true = refl
    by_halt false = refl

    by_mote : (o : Option SessionView) → (o ≡ None → ⊥) → told_refusal m o net ≡ fault_if (if is_halted_in o then None else catch_up_refusal m net)
    by_mote None there = absurd (there refl)
    by_mote (Some mote) there = by_halt mote.machine.is_halted

-- a mote that got the time was behind

late_of : (mote : SessionView) (clock : ℕ) → (not mote.machine.is_halted && nat_lt mote.machine.clock clock) ≡ true → mote.machine.clock < clock
late_of mote clock is = by_halt mote.machine.is_halted (nat_lt mote.machine.clock clock) refl is
  where
    by_halt : (halted late : Bool) → nat_lt mote.machine.clock clock ≡ late → (not halted && late) ≡ true → mote.machine.clock < clock
    by_halt true late e is = absurd (cc)
    by_halt false true e is = grind (arith, nat_tests)
    by_halt false false e is = absurd (cc)

pub tells : (m : ℕ) (old new : NetworkView) (given : Bool) → IsResting old →
    ((one : SessionView) → slice_get old.motes m ≡ Some one → given ≡ is_behind old one) → given ≡ true → IsToldTime m old new → TellsTime m old new
tells m old new given rested behind so is =
    let t = is.told in
    record { rested = rested; behind = rw t.mote (late_of t.before old.air.clock (sym (behind t.before t.mote) ∙ so)); told = is }

not_late : (halted late : Bool) → halted ≡ false → (not halted && late) ≡ false → late ≡ false
not_late true late up is = absurd (cc)
not_late false late up is = is

-- one that wasn't halted, and didn't get it, wasn't
pub not_given : (m : ℕ) (net : NetworkView) (given : Bool) (mote : SessionView) →
    ((one : SessionView) → slice_get net.motes m ≡ Some one → given ≡ is_behind net one) → given ≡ false → slice_get net.motes m ≡ Some mote →
    mote.machine.is_halted ≡ false → nat_lt mote.machine.clock net.air.clock ≡ false
not_given m net given mote behind so there up =
    not_late mote.machine.is_halted (nat_lt mote.machine.clock net.air.clock) up (sym (behind mote there) ∙ so)
