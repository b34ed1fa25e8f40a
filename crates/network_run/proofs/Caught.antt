-- A mote that got the time has it until the network rests.
use Rattle.std.proofs.Common.{◌≡◌, ℕ, ◌+◌, ◌<◌, ◌≤◌, ◌==◌, ◌||◌, List, [], ◌∷◌, ◌++◌, map, length, set, slice_get, refl, ap, sym, subst, ◌∙◌, arith, Bool, true, false, Option, Some, None, nat_lt, if◌then◌else◌, inl, inr}
use Rattle.std.proofs.lemmas.Bool.Decides.{nat_tests}
use Rattle.network_session.specs.Alarms.{first_come}
use Rattle.kernel_core.specs.Machine.{Machine}
use Rattle.medium_core.specs.Air.{arrival}
use Rattle.medium_core.specs.declared.flight.Flight.{Flight}
use Rattle.mote_session.specs.SessionView.{SessionView}
use Rattle.mote_session.specs.declared.session.Next.{Next}
use Rattle.mote_types.specs.declared.entry.Input.{Input}
use Rattle.network_session.specs.Network.{NetworkView, wakes_of}
use Rattle.network_session.specs.Schedule.{arriving, due_now, due_step, hearing, is_rest, waking}
use Rattle.network_session.specs.Steps.{IsToldTime, Steps, Worked}
use Rattle.network_session.specs.Waking.{due_ticks}
use Rattle.network_session.specs.declared.outcome.Outcome.{Outcome}
use Rattle.network_session.proofs.Due.{due_is}
use Rattle.network_session.proofs.Timely.{fed_clock, landed_clock, none_at_work}
use Rattle.network_run.specs.Code.Ready.{IsCaught, IsCaughtAtRest, IsFit, IsFitIf, IsOnTime, IsReady}
use Rattle.network_run.specs.Outside.{Outside, all_outside}
use Rattle.network_run.proofs.Ready.{aired_clock, each_with}
use Rattle.network_run.proofs.Lengths.{leads_length}
use Rattle.network_run.proofs.OutsideMoves.{outside_is}
use Rattle.network_steps.specs.Works.{inputs_of, is_behind}
use Rattle.network_steps.proofs.GivenInputs.{not_given}
use Rattle.network_steps.specs.Code.Turns.{times_of}
use Rattle.network_steps.specs.NetworkRuns.{DoesStep, IsResting, Leads, Move, TellsTime}
use Rattle.network_steps.specs.Works.{inputs_waiting}
use Rattle.network_steps.specs.declared.came.Waiting.{Waiting}
use Rattle.network_steps.specs.declared.input.NetworkInput.{NetworkInput}

-- ---- time is up at rest, and doesn't go on

hearing_goes : (clock : ℕ) (f : Flight) (o : Option SessionView) → (hearing clock f o ≡ Outcome.Rest → ⊥) × (hearing clock f o ≡ Outcome.Clock → ⊥)
hearing_goes clock f None = (λ e. absurd (cc), λ e. absurd (cc))
hearing_goes clock f (Some mote) = by_tests (mote.machine.is_halted || length f.bytes.items == 0) (nat_lt mote.machine.clock clock)
  where
    by_tests : (a b : Bool) → ((if a then Outcome.Missed f.from f.to else if b then Outcome.Woken f.to else Outcome.Heard f.to) ≡ Outcome.Rest → ⊥)
        × ((if a then Outcome.Missed f.from f.to else if b then Outcome.Woken f.to else Outcome.Heard f.to) ≡ Outcome.Clock → ⊥)
    by_tests true b = (λ e. absurd (cc), λ e. absurd (cc))
    by_tests false true = (λ e. absurd (cc), λ e. absurd (cc))
    by_tests false false = (λ e. absurd (cc), λ e. absurd (cc))

rest_by : (net : NetworkView) (o : Option Flight) → arriving net o ≡ Outcome.Rest → net.target ≤ net.air.clock
rest_by net (Some f) h = absurd ((hearing_goes net.air.clock f (slice_get net.motes f.to)).0 h)
rest_by net None h = by_test (nat_lt net.air.clock net.target) refl h
  where
    by_test : (b : Bool) → nat_lt net.air.clock net.target ≡ b → (if b then Outcome.Clock else Outcome.Rest) ≡ Outcome.Rest → net.target ≤ net.air.clock
    by_test true e h = absurd (cc)
    by_test false e h = grind (arith, nat_tests)

rest_now : (net : NetworkView) (o : Option ℕ) → waking net o ≡ Outcome.Rest → net.target ≤ net.air.clock
rest_now net None h = rest_by net (arrival net.air) h
rest_now net (Some m) h = absurd (cc)

is_rest_then : (x : Outcome) → is_rest x ≡ true → x ≡ Outcome.Rest
is_rest_then Outcome.Rest h = refl
is_rest_then Outcome.Clock h = absurd (cc)
is_rest_then (Outcome.Missed from to) h = absurd (cc)
is_rest_then Outcome.Exhausted h = absurd (cc)
is_rest_then (Outcome.Started m) h = absurd (cc)
is_rest_then (Outcome.Worked m next) h = absurd (cc)
is_rest_then (Outcome.Woken m) h = absurd (cc)
is_rest_then (Outcome.Heard m) h = absurd (cc)

pub rest_time : (net : NetworkView) → due_step net ≡ Outcome.Rest → net.target ≤ net.air.clock
rest_time net h = by_tests (nat_lt net.started (length net.motes)) (net.rounds == 0) (is_rest (due_now net)) refl h
  where
    by_tests : (s r t : Bool) → is_rest (due_now net) ≡ t →
        (if s then Outcome.Started net.started else if r then (if t then Outcome.Rest else Outcome.Exhausted) else due_now net) ≡ Outcome.Rest → net.target ≤ net.air.clock
    by_tests true r t e h = absurd (cc)
    by_tests false true true e h = rest_now net (first_come net.air.clock (wakes_of net.motes)) (is_rest_then (due_now net) e)
    by_tests false true false e h = absurd (cc)
    by_tests false false t e h = rest_now net (first_come net.air.clock (wakes_of net.motes)) h

clock_by : (net : NetworkView) (o : Option Flight) → Outcome.Clock ≡ arriving net o → net.air.clock < net.target
clock_by net (Some f) h = absurd ((hearing_goes net.air.clock f (slice_get net.motes f.to)).1 (sym h))
clock_by net None h = by_test (nat_lt net.air.clock net.target) refl h
  where
    by_test : (b : Bool) → nat_lt net.air.clock net.target ≡ b → Outcome.Clock ≡ (if b then Outcome.Clock else Outcome.Rest) → net.air.clock < net.target
    by_test true e h = grind (arith, nat_tests)
    by_test false e h = absurd (cc)

clock_now : (net : NetworkView) (o : Option ℕ) → Outcome.Clock ≡ waking net o → net.air.clock < net.target
clock_now net None h = clock_by net (arrival net.air) h
clock_now net (Some m) h = absurd (cc)

clock_time : (net : NetworkView) → Outcome.Clock ≡ due_step net → net.air.clock < net.target
clock_time net h = clock_now net (first_come net.air.clock (wakes_of net.motes)) (due_is net Outcome.Clock refl h).due

-- ---- mote m keeps the time

module _ (m : ℕ) (old new : NetworkView) (caught : IsCaught m old) where
  pub caught_with : (k : ℕ) (before after : SessionView) → slice_get old.motes k ≡ Some before → new.motes ≡ set old.motes k after →
      new.air.clock ≡ old.air.clock → new.target ≡ old.target → (before.machine.clock ≡ old.air.clock → after.machine.clock ≡ old.air.clock) → IsCaught m new
  caught_with k before after there is clock target own = record {
    up = omega (arith, clock, target, caught.up);
    on_time = λ mote here. each_with (λ (i : ℕ) (one : SessionView). i ≡ m → one.machine.clock ≡ new.air.clock) old.motes new.motes k before after there is
        (λ same. own (caught.on_time before (ap (slice_get old.motes) (sym same) ∙ there)) ∙ sym clock)
        (λ i one other here same. caught.on_time one (ap (slice_get old.motes) (sym same) ∙ here) ∙ sym clock)
        m mote here refl;
  }

  caught_same : new.motes ≡ old.motes → new.air.clock ≡ old.air.clock → new.target ≡ old.target → IsCaught m new
  caught_same motes clock target = record {
    up = omega (arith, clock, target, caught.up);
    on_time = λ mote here. caught.on_time mote (ap (λ (l : List SessionView). slice_get l m) (sym motes) ∙ here) ∙ sym clock;
  }

  caught_worked : (next : Next) (k : ℕ) → Worked k next old new → IsCaught m new
  caught_worked next k w =
      let h = w.worked in
      caught_with k h.before h.after h.mote h.others (ap (λ (v : NetworkView). v.air.clock) w.result ∙ aired_clock k next h.after old.air)
      (ap (λ (v : NetworkView). v.target) w.result) (λ same. h.same.1 ∙ same)

  pub caught_told : (k : ℕ) → IsToldTime k old new → IsCaught m new
  caught_told k s =
      let h = s.told in
      let clock : h.after.machine.clock ≡ h.before.machine.clock + due_ticks old.air.clock h.before.machine.clock =
      ap (λ (x : Machine). x.clock) h.fed.machine ∙ fed_clock (Input.Tick (due_ticks old.air.clock h.before.machine.clock)) h.before.machine in
      caught_with k h.before h.after h.mote h.others (ap (λ (v : NetworkView). v.air.clock) s.result) (ap (λ (v : NetworkView). v.target) s.result)
      (λ same. omega (arith, clock, same))

pub step_caught : (m : ℕ) (x : Outcome) (old new : NetworkView) → IsCaught m old → DoesStep x old new → IsCaught m new
step_caught m (Outcome.Started k) old new caught does = rw does.steps (record { up = caught.up; on_time = caught.on_time })
step_caught m (Outcome.Worked k next) old new caught does = caught_worked m old new caught next k does.steps
step_caught m (Outcome.Woken k) old new caught does = caught_told m old new caught k does.steps
step_caught m (Outcome.Heard k) old new caught does =
    let s = does.steps in
    let h = s.handed in
    let clock : h.after.machine.clock ≡ h.before.machine.clock + 0 = ap (λ (x : Machine). x.clock) h.fed.machine ∙ fed_clock (Input.Frame s.flight.bytes) h.before.machine in
    caught_with m old new caught k h.before h.after h.mote h.others (ap (λ (v : NetworkView). v.air.clock) s.result ∙ landed_clock (arrival old.air) old.air)
    (ap (λ (v : NetworkView). v.target) s.result) (λ same. omega (arith, clock, same))
step_caught m (Outcome.Missed from to) old new caught does =
    let s = does.steps in
    caught_same m old new caught (ap (λ (v : NetworkView). v.motes) s) (ap (λ (v : NetworkView). v.air.clock) s ∙ landed_clock (arrival old.air) old.air)
    (ap (λ (v : NetworkView). v.target) s)
step_caught m Outcome.Clock old new caught does =
    let less = clock_time old (does.due (none_at_work old.active does.work)) in absurd (omega (arith, less, caught.up))
step_caught m Outcome.Rest old new caught does = rw does.steps caught
step_caught m Outcome.Exhausted old new caught does = rw does.steps caught

pub leads_caught : (m : ℕ) (moves : List Move) (old new : NetworkView) → IsCaught m old → all_outside moves ≡ [] → Leads old moves new → IsCaught m new
leads_caught m [] old new caught own leads = subst (IsCaught m) leads caught
leads_caught m (Move.Step x mid ∷ moves) old new caught own leads = leads_caught m moves mid new (step_caught m x old mid caught leads.0) own leads.1
leads_caught m (Move.Submit call mid ∷ moves) old new caught own leads =
    let s = leads.0 in
    let h = s.submitted in
    leads_caught m moves mid new
    (caught_with m old mid caught s.m h.before h.after h.mote h.others (ap (λ (v : NetworkView). v.air.clock) s.result) (ap (λ (v : NetworkView). v.target) s.result)
    (λ same. h.same.1 ∙ same)) own leads.1
leads_caught m (Move.Tick ticks mid ∷ moves) old new caught own leads = absurd (cc)
leads_caught m (Move.Tell k mid ∷ moves) old new caught own leads = absurd (cc)
leads_caught m (Move.Hand k input mid ∷ moves) old new caught own leads = absurd (cc)
leads_caught m (Move.Miss k input mid ∷ moves) old new caught own leads = absurd (cc)

-- a mote that just got the time
pub told_caught : (m : ℕ) (old new : NetworkView) → IsReady new → TellsTime m old new → IsCaught m new
told_caught m old new after tells =
    let result = tells.told.result in
    let clock : new.air.clock ≡ old.air.clock = ap (λ (v : NetworkView). v.air.clock) result in
    let target : new.target ≡ old.target = ap (λ (v : NetworkView). v.target) result in
    let active : new.active ≡ Some m = ap (λ (v : NetworkView). v.active) result in
    let before = rest_time old tells.rested.due in
    record { up = omega (arith, clock, target, before); on_time = λ mote there. (after.time m mote there).at_work active }

-- one that isn't behind
pub untold_on_time : (m : ℕ) (net : NetworkView) (one : SessionView) → slice_get net.motes m ≡ Some one → is_behind net one ≡ false → IsOnTime m net
untold_on_time m net one here is mote there up =
    not_given m net false mote (λ other other_there. let same : one ≡ other = let x = here in let y = other_there in cc in sym (subst (λ (s : SessionView). is_behind net s ≡ false) same is)) refl there up

-- ---- what waits is for a mote that has got the time

-- a network at rest stays as it is
rest_leads : (moves : List Move) (old new : NetworkView) → IsResting old → all_outside moves ≡ [] → Leads old moves new → new ≡ old
rest_leads [] old new rests own leads = sym leads
rest_leads (Move.Step x mid ∷ moves) old new rests own leads =
    let x_rest : x ≡ Outcome.Rest = leads.0.due rests.idle ∙ rests.due in
    let same : mid ≡ old = subst (λ (y : Outcome). Steps y old mid) x_rest leads.0.steps in
    rest_leads moves mid new (rw same rests) own leads.1 ∙ same
rest_leads (Move.Submit call mid ∷ moves) old new rests own leads =
    let e = leads.0.was_active in let f = rests.idle in absurd (let g : None ≡ Some leads.0.m = sym f ∙ e in cc)
rest_leads (Move.Tick ticks mid ∷ moves) old new rests own leads = absurd (cc)
rest_leads (Move.Tell m mid ∷ moves) old new rests own leads = absurd (cc)
rest_leads (Move.Hand m input mid ∷ moves) old new rests own leads = absurd (cc)
rest_leads (Move.Miss m input mid ∷ moves) old new rests own leads = absurd (cc)

pub caught_on_time : (m : ℕ) (net : NetworkView) → IsCaught m net → IsOnTime m net
caught_on_time m net caught mote there up = let same = caught.on_time mote there in grind (arith, nat_tests)

pub on_time_by : (m : ℕ) (net : NetworkView) → IsCaughtAtRest m net → IsOnTime m net
on_time_by m net (inl caught) = caught_on_time m net caught
on_time_by m net (inr rest) = rest.1

caught_still : (m : ℕ) (moves : List Move) (old new : NetworkView) → all_outside moves ≡ [] → Leads old moves new → IsCaughtAtRest m old → IsCaughtAtRest m new
caught_still m moves old new own leads (inl caught) = inl (leads_caught m moves old new caught own leads)
caught_still m moves old new own leads (inr rest) = inr (rw (rest_leads moves old new rest.0 own leads) rest)

fit_still : (w : Waiting) (moves : List Move) (old new : NetworkView) → all_outside moves ≡ [] → Leads old moves new → IsFit w old → IsFit w new
fit_still w moves old new own leads fit = record {
  there = rw (leads_length moves old new leads) fit.there;
  outside = fit.outside;
  caught = caught_still w.mote moves old new own leads fit.caught;
}

none_more : (inputs : List NetworkInput) (input : NetworkInput) → inputs ++ input ∷ [] ≡ [] → ⊥
none_more [] input e = absurd (cc)
none_more (first ∷ inputs) input e = absurd (cc)

-- what waits still is what waited
fit_by : (inputs : List NetworkInput) (moves : List Move) (waiting left : Option Waiting) (old new : NetworkView) → inputs_of moves ≡ inputs →
    inputs ++ inputs_waiting left ≡ inputs_waiting waiting → times_of moves ≡ [] → Leads old moves new → IsFitIf waiting old → IsFitIf left new
fit_by inputs moves waiting None old new is e untold leads fit = tt
fit_by [] moves None (Some w) old new is e untold leads fit = absurd (cc)
fit_by [] moves (Some one) (Some w) old new is e untold leads fit =
    let number : w.mote + 1 ≡ one.mote + 1 = cc in
    let mote : one.mote ≡ w.mote = omega (arith, number) in
    let input : one.input ≡ w.input = cc in
    let own : all_outside moves ≡ [] = outside_is moves untold ∙ ap (map Outside.Given) is in
    let fits : IsFit one new = fit_still one moves old new own leads fit in
    record { there = rw (← mote) fits.there; outside = rw (← input) fits.outside; caught = rw (← mote) fits.caught }
fit_by (first ∷ inputs) moves None (Some w) old new is e untold leads fit = absurd (cc)
fit_by (first ∷ inputs) moves (Some one) (Some w) old new is e untold leads fit =
    let none : inputs ++ NetworkInput.ForMote (w.mote + 1) w.input ∷ [] ≡ [] = cc in absurd (none_more inputs _ none)

pub fit_on : (moves : List Move) (waiting left : Option Waiting) (old new : NetworkView) → inputs_of moves ++ inputs_waiting left ≡ inputs_waiting waiting →
    times_of moves ≡ [] → Leads old moves new → IsFitIf waiting old → IsFitIf left new
fit_on moves waiting left old new e untold leads fit = fit_by (inputs_of moves) moves waiting left old new refl e untold leads fit
