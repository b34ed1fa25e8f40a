-- Each step takes something of what is left to do.
use Rattle.std.proofs.Common.{◌≡◌, ℕ, ◌<◌, ◌≤◌, length, true, false, refl, ap, sym, ◌∙◌, arith, Option, None, Some, is_some}
use Rattle.std.proofs.lemmas.List.{length-set}
use Rattle.mote_session.specs.declared.session.Next.{Next}
use Rattle.network_session.specs.Code.Measures.{IsNearerRest, is_last, left_at_work, most_left_at_work, to_do}
use Rattle.network_session.specs.Code.Working.{TakesTurn}
use Rattle.network_session.specs.Network.{NetworkView}
use Rattle.network_session.specs.Steps.{IsNetworkFed, Steps, Worked, is_work}
use Rattle.network_session.specs.declared.outcome.Outcome.{Outcome}
use Rattle.network_session.proofs.Nearer.{fewer_to_do, nearer_entry, nearer_turn, nearer_worked}
use Rattle.network_steps.specs.Code.Going.{left_to_do, rounds_of}
use Rattle.network_steps.specs.Code.Turns.{is_end_if, is_turn_step}
use Rattle.network_steps.specs.NetworkRuns.{DoesStep}
use Rattle.network_steps.specs.StepsView.{StepsView}
use Rattle.network_steps.specs.Works.{came_of}
use Rattle.network_steps.specs.declared.came.Waiting.{Waiting}

pub idle_if : (o : Option ℕ) → false ≡ is_some o → o ≡ None
idle_if None e = refl
idle_if (Some m) e = absurd (cc)

-- the bound stays

step_bound : (x : Outcome) (old new : NetworkView) → Steps x old new → new.bound ≡ old.bound
step_bound (Outcome.Started m) old new s = ap (λ (v : NetworkView). v.bound) s
step_bound (Outcome.Worked m next) old new s = ap (λ (v : NetworkView). v.bound) s.result
step_bound (Outcome.Woken m) old new s = ap (λ (v : NetworkView). v.bound) s.result
step_bound (Outcome.Heard m) old new s = ap (λ (v : NetworkView). v.bound) s.result
step_bound (Outcome.Missed from to) old new s = ap (λ (v : NetworkView). v.bound) s
step_bound Outcome.Clock old new s = ap (λ (v : NetworkView). v.bound) s
step_bound Outcome.Rest old new s = ap (λ (v : NetworkView). v.bound) s
step_bound Outcome.Exhausted old new s = ap (λ (v : NetworkView). v.bound) s

-- the mote at work has fewer entries left, or a round or a start was taken
less_at_work : (old new : StepsView) → IsNearerRest old.net new.net → new.net.bound ≡ old.net.bound → new.waiting ≡ old.waiting → left_to_do new < left_to_do old
less_at_work old new nearer bound waiting =
    let rounds : rounds_of new.waiting new.net.bound ≡ rounds_of old.waiting old.net.bound = rw (bound, waiting) refl in
    omega (arith, nearer.nearer, nearer.same, rounds)

less_of_rounds : (old new : StepsView) → to_do new.net < to_do old.net → left_at_work new.net ≤ most_left_at_work → new.net.bound ≡ old.net.bound →
    new.waiting ≡ old.waiting → left_to_do new < left_to_do old
less_of_rounds old new fewer few bound waiting =
    let rounds : rounds_of new.waiting new.net.bound ≡ rounds_of old.waiting old.net.bound = rw (bound, waiting) refl in
    omega (arith, fewer, few, rounds)

module _ (old new : StepsView) (few : left_at_work new.net ≤ most_left_at_work) (waiting : new.waiting ≡ old.waiting) where
  less_due : (x : Outcome) → DoesStep x old.net new.net → is_work x ≡ false → is_last x ≡ false → left_to_do new < left_to_do old
  less_due x does idle on =
      less_of_rounds old new (fewer_to_do x old.net new.net does.steps (does.due (idle_if old.net.active (sym idle ∙ does.work))) idle on) few
      (step_bound x old.net new.net does.steps) waiting

  pub less : (x : Outcome) → DoesStep x old.net new.net → is_turn_step x ≡ false → is_last x ≡ false → left_to_do new < left_to_do old
  less (Outcome.Worked m next) does no_turn on =
      less_at_work old new (nearer_worked m next old.net new.net does.steps (λ is. let e : is_turn_step (Outcome.Worked m next) ≡ true = rw is refl in absurd (cc)))
      (step_bound (Outcome.Worked m next) old.net new.net does.steps) waiting
  less (Outcome.Started m) does no_turn on = less_due (Outcome.Started m) does refl refl
  less (Outcome.Woken m) does no_turn on = less_due (Outcome.Woken m) does refl refl
  less (Outcome.Heard m) does no_turn on = less_due (Outcome.Heard m) does refl refl
  less (Outcome.Missed from to) does no_turn on = less_due (Outcome.Missed from to) does refl refl
  less Outcome.Clock does no_turn on = less_due Outcome.Clock does refl refl
  less Outcome.Rest does no_turn on = absurd (cc)
  less Outcome.Exhausted does no_turn on = absurd (cc)

-- a turn, and its call
pub less_by_turn : (m : ℕ) (old new : StepsView) → TakesTurn m old.net new.net → new.waiting ≡ old.waiting → left_to_do new < left_to_do old
less_by_turn m old new turn waiting =
    less_at_work old new (nearer_turn m turn.call old.net turn.mid new.net turn.opens turn.submitted)
    (ap (λ (v : NetworkView). v.bound) turn.submitted.result ∙ ap (λ (v : NetworkView). v.bound) turn.opens.result) waiting

-- another entry, which is noted
pub less_made : (m : ℕ) (old new : StepsView) (net : NetworkView) → Worked m Next.Entry old.net net → new.net ≡ net → new.waiting ≡ old.waiting →
    left_to_do new < left_to_do old
less_made m old new net worked is waiting =
    let made : Worked m Next.Entry old.net new.net = rw is worked in
    less_at_work old new (nearer_entry m old.net new.net made) (ap (λ (v : NetworkView). v.bound) made.result) waiting

-- the last step is one that ends the work
pub ends_work : (x : Outcome) → is_end_if (came_of x) ≡ is_last x
ends_work (Outcome.Worked m Next.Turn) = refl
ends_work (Outcome.Worked m Next.Entry) = refl
ends_work (Outcome.Worked m Next.Rest) = refl
ends_work (Outcome.Worked m Next.Halted) = refl
ends_work (Outcome.Started m) = refl
ends_work (Outcome.Woken m) = refl
ends_work (Outcome.Heard m) = refl
ends_work (Outcome.Missed from to) = refl
ends_work Outcome.Clock = refl
ends_work Outcome.Rest = refl
ends_work Outcome.Exhausted = refl

-- an input that waits is handed over, or missed

pub less_handed : (w : Waiting) (old new : StepsView) → IsNetworkFed w.mote w.input old.net new.net → left_at_work new.net ≤ most_left_at_work →
    new.waiting ≡ None → left_to_do new < left_to_do (record old { waiting = Some w })
less_handed w old new fed few none =
    let h = fed.handed in
    let started : new.net.started ≡ old.net.started = ap (λ (v : NetworkView). v.started) fed.result in
    let rounds : new.net.rounds ≡ old.net.bound = ap (λ (v : NetworkView). v.rounds) fed.result in
    let motes : length new.net.motes ≡ length old.net.motes = ap length h.others ∙ length-set old.net.motes w.mote h.after in
    let taken : rounds_of new.waiting new.net.bound ≡ 0 = ap (λ (o : Option Waiting). rounds_of o new.net.bound) none in
    omega (arith, started, rounds, motes, taken, few)
