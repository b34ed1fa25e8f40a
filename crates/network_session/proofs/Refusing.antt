-- Which refusal an input has, once what comes first is ruled out.
use Rattle.std.proofs.Common.{◌≡◌, ◌∙◌, sym, ℕ, ◌≤◌, arith, Bool, false, true, not, refl, slice_get, Option, None, Some, Result, Ok, Err, IfOk, IfErr, nat_lt}
use Rattle.std.proofs.lemmas.Bool.Decides.{nat_tests}
use Rattle.kernel_core.specs.Code.Conditions.{ticks_of}
use Rattle.mote_types.specs.declared.entry.Input.{Input}
use Rattle.mote_session.specs.SessionView.{SessionView}
use Rattle.network_session.specs.Network.{NetworkView}
use Rattle.network_session.specs.Refusals.{feed_refusal, is_tick, mote_refusal}
use Rattle.network_session.specs.Steps.{HandedIn, IsNetworkFed}
use Rattle.network_session.specs.declared.fault.NetworkFault.{NetworkFault}

pub is_not : (b : Bool) → true ≡ not b → b ≡ false
is_not true e = absurd (let other = e in cc)
is_not false e = refl

-- of an input from outside
pub fed_or_refused : (net : NetworkView) (m : ℕ) (input : Input) (mote : SessionView) (why : Option NetworkFault) →
    net.active ≡ None → slice_get net.motes m ≡ Some mote → is_tick input ≡ false → net.air.clock ≤ mote.machine.clock →
    mote_refusal input mote ≡ why → feed_refusal m input net ≡ why
fed_or_refused net m input mote why idle there no_tick on_time e =
    let late : nat_lt mote.machine.clock net.air.clock ≡ false = grind (arith, nat_tests) in
    rw (idle, there, no_tick, late) e

-- a mote that was handed an input was on time
pub fed_on_time : (old new : NetworkView) (m : ℕ) (input : Input) (mote : SessionView) →
    old.active ≡ None → slice_get old.motes m ≡ Some mote → ticks_of input ≡ 0 → old.air.clock ≤ mote.machine.clock →
    HandedIn m (λ mote. input) old.motes new.motes → new ≡ record old { motes = new.motes; active = Some m; rounds = old.bound } → IsNetworkFed m input old new
fed_on_time old new m input mote idle there timeless on_time handed result =
    let same : Some mote ≡ Some handed.before = sym there ∙ handed.mote in
    let clock : mote.machine.clock ≡ handed.before.machine.clock = let s = same in cc in
    record { was_active = idle; timeless = timeless; handed = handed; on_time = omega (arith, on_time, clock); result = result }

-- a mote that was told the time, and is handed an input from outside
pub record IsOnTime (net : NetworkView) (m : ℕ) (input : Input) (mote : SessionView) : Type 0 where
  pub idle : net.active ≡ None
  pub there : slice_get net.motes m ≡ Some mote
  pub no_tick : is_tick input ≡ false
  pub on_time : net.air.clock ≤ mote.machine.clock

pub feed_fed : (r : Result Unit NetworkFault) (old new : NetworkView) (m : ℕ) (input : Input) (mote : SessionView) → IsOnTime old m input mote → ticks_of input ≡ 0 →
    IfOk r (λ _. HandedIn m (λ mote. input) old.motes new.motes) → IfOk r (λ _. new ≡ record old { motes = new.motes; active = Some m; rounds = old.bound }) →
    IfOk r (λ _. IsNetworkFed m input old new)
feed_fed (Ok x) old new m input mote h timeless handed result =
    fed_on_time old new m input mote h.idle h.there timeless h.on_time handed result
feed_fed (Err e) old new m input mote h timeless handed result = tt

pub feed_accepted : (r : Result Unit NetworkFault) (net : NetworkView) (m : ℕ) (input : Input) (mote : SessionView) → IsOnTime net m input mote →
    IfOk r (λ _. (mote : SessionView) → slice_get net.motes m ≡ Some mote → mote_refusal input mote ≡ None) → IfOk r (λ _. feed_refusal m input net ≡ None)
feed_accepted (Ok x) net m input mote h accepted =
    fed_or_refused net m input mote None h.idle h.there h.no_tick h.on_time (accepted mote h.there)
feed_accepted (Err e) net m input mote h accepted = tt

pub feed_refused : (r : Result Unit NetworkFault) (net new : NetworkView) (m : ℕ) (input : Input) (mote : SessionView) → IsOnTime net m input mote →
    IfErr r (λ _. new ≡ net) → IfErr r (λ fault. (mote : SessionView) → slice_get net.motes m ≡ Some mote → mote_refusal input mote ≡ Some fault) →
    IfErr r (λ fault. (feed_refusal m input net ≡ Some fault) × (new ≡ net))
feed_refused (Ok x) net new m input mote h same why = tt
feed_refused (Err e) net new m input mote h same why =
    (fed_or_refused net m input mote (Some e) h.idle h.there h.no_tick h.on_time (why mote h.there), same)
