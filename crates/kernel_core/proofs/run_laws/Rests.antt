-- After each input a run reaches rest or halts: each step lowers a measure.
use Rattle.std.proofs.Common.{◌≡◌, ℕ, zero, suc, ◌+◌, ◌-◌, ◌*◌, ◌≤◌, Bool, true, false, not, List, [], ◌∷◌, length, refl, arith, Option, Some, if◌then◌else◌, ◌==◌, map, subst, sym}
use Rattle.kernel_core.proofs.Common.{decide, length-map, Call, Stimulus, Origin, Input, Applications, Item, Job, Scheduler, after_front, job, in_front, Config, Machine, scheduled, after_call, fed, Choices, StepMade, Running, Runs, ComesToRest, one_step, job_done, within_limit, is_still, after_step, choices_after, with_input, at_start, silent, with_more_work, farewells, number_event, EXITED, numbers, without, is_process}
use Rattle.std.proofs.Math.Nat.{suc-mul}
use Rattle.kernel_core.specs.Code.Cost.{present, costs, round_cost, IsPaid}
use Rattle.kernel_core.proofs.Costs.{length-without, after_front-present, costs-cons, costs-nil, costs-append, paid}
use Rattle.kernel_core.proofs.Totals.{total-append, total-none}
use Rattle.kernel_core.proofs.run_laws.Changes.{serve-untouched, call-work}

-- asked only when no work is left
abbrev is_rest : Option (Job Bool) → Bool
is_rest (Some Job.Rest) = true
is_rest _ = false

-- the most processes on the list until the next input
abbrev reserve : Machine → ℕ
reserve m = present m.scheduler + (10000 - m.work)

-- a unit of work is worth one round and what it puts on the agenda
unfoldable measure : ℕ → Machine → ℕ
measure bound m = (10000 - m.work) * suc (round_cost bound) + costs bound m.scheduler.agenda

-- after one more unit of work
one_less : (work unit : ℕ) → work ≤ 10000 → (work == 10000) ≡ false → (10000 - work) * unit ≡ (10000 - (work + 1)) * unit + unit
one_less work unit = grind (decide, suc-mul (10000 - (work + 1)) unit)

module _ (bound : ℕ) where
  costs-gives : (origin : Origin) (stimulus : Stimulus) (ns : List ℕ)
      → costs bound (map (λ p. Item.Give p origin stimulus) ns) ≡ 2 * length ns
  costs-gives origin stimulus [] = costs-nil bound
  costs-gives origin stimulus (n ∷ ns) =
      grind (
        arith,
        costs-cons bound (Item.Give n origin stimulus) (map (λ p. Item.Give p origin stimulus) ns),
        costs-gives origin stimulus ns,
      )

  costs-farewells : (p : ℕ) (s : Scheduler Bool) → length s.processes ≤ bound → costs bound (farewells p s) ≤ 2 * bound
  costs-farewells p s h =
      grind (
        arith,
        costs-gives Origin.Synch (Stimulus.Event (number_event EXITED p)) (numbers (without p s.processes)),
        length-map,
        length-without (λ process. not (is_process p process)) s.processes,
      )

  call-costs : (call : Call) (p : ℕ) (m : Machine) → length m.scheduler.processes ≤ bound
      → costs bound (after_call call p m).scheduler.agenda ≤ costs bound m.scheduler.agenda + 2 * bound + 4
  call-costs = grind (decide, costs-append, costs-cons, costs-nil, costs-farewells)

  record Falls (left : ℕ) (old new : Machine) : Type 0 where
    work : new.work ≤ 10000
    reserve : reserve new ≤ reserve old
    measure : new.is_halted ≡ false → measure bound new + 1 ≤ left

module _ (bound : ℕ) where
  limit-falls : (left : ℕ) (m : Machine) (step : StepMade) → m.work ≤ 10000 → ((m.work == 10000) ≡ false → Falls bound left m step.0)
      → Falls bound left m (within_limit m step).0
  limit-falls = grind decide

  module _ (old : ℕ) where
    call-falls : (call : Call) (p : ℕ) (m : Machine) → m.work ≤ 10000 → (m.work == 10000) ≡ false
        → length m.scheduler.processes ≤ bound
        → costs bound m.scheduler.agenda + 1 ≤ old
        → Falls bound ((10000 - m.work) * suc (round_cost bound) + old) m (after_call call p (with_more_work m))
    unfolding measure
    call-falls = grind (decide, call-work, length-map, total-append, total-none, call-costs, one_less, measure)

    round-falls : (m : Machine) → m.work ≤ 10000 → (m.work == 10000) ≡ false → costs bound m.scheduler.agenda ≤ round_cost bound
        → Falls bound ((10000 - m.work) * suc (round_cost bound) + old) m (with_more_work m)
    unfolding measure
    round-falls = grind (decide, one_less)

    -- only the agenda shrinks
    quiet-falls : (m new : Machine) → m.work ≤ 10000 → new.work ≡ m.work → present new.scheduler ≤ present m.scheduler
        → costs bound new.scheduler.agenda + 1 ≤ old → Falls bound ((10000 - m.work) * suc (round_cost bound) + old) m new
    unfolding measure
    quiet-falls = grind decide

  module _ (choices : Choices) where
    -- a job of this worth is done
    module _ (m : Machine) (old : ℕ) (h : length m.scheduler.processes ≤ bound) (w : m.work ≤ 10000) where
      job-falls : (next : Option (Job Bool)) → is_rest next ≡ false → IsPaid bound next old (costs bound m.scheduler.agenda)
          → Falls bound ((10000 - m.work) * suc (round_cost bound) + old) m (job_done choices next m).0
      job-falls (Some (Job.TakeTurn p origin stimulus)) r paid = grind (decide, call-falls)
      job-falls (Some (Job.Serve p event)) r paid = grind (decide, serve-untouched, quiet-falls)
      job-falls (Some (Job.CallBack p c false)) r paid =
          let given : Machine = scheduled (in_front (Item.Give p Origin.Callback (Stimulus.Callback c) ∷ [])) m in
          let less : costs bound given.scheduler.agenda + 1 ≤ old = rw (costs-cons bound) (omega arith) in
          quiet-falls old m given w refl (omega arith) less
      job-falls (Some Job.Round) r paid = limit-falls _ m (silent (with_more_work m)) w (λ n. round-falls old m w n paid)
      job-falls next r paid = grind (decide, quiet-falls)

    step-falls : (m : Machine) → m.work ≤ 10000 → reserve m ≤ bound → is_still m ≡ false
        → Falls bound (measure bound m) m (one_step choices m).0
    unfolding measure
    step-falls m w few live =
        let up : m.is_halted ≡ false = grind decide in
        let fewer = after_front-present m.scheduler in
        let f = job-falls (scheduled after_front m) (costs bound m.scheduler.agenda) (omega (arith, fewer, few)) w (job m.scheduler)
        (grind (decide, m.scheduler))
        (paid bound m.scheduler (omega (arith, few))) in
        subst (λ (b : Bool).
        Falls bound (measure bound m) m (if b then silent m else job_done choices (job m.scheduler) (scheduled after_front m)).0)
        (sym up) (record { work = f.work; reserve = omega (arith, f.reserve, fewer); measure = f.measure })

fed-work : (input : Input) (m : Machine) → (fed input m).work ≡ 0
fed-work = grind arith

module _ (says : Applications) where
  -- the run reaches rest from here
  abbrev Rests : Running → Type 0
  Rests r = (new : Running) × ComesToRest says r new

  abbrev Ends : List Input → Running → Type 0
  Ends inputs r = (after : Running) × Runs says r inputs after

  rests_within : (bound fuel : ℕ) (r : Running) → r.machine.work ≤ 10000 → reserve r.machine ≤ bound
      → (r.machine.is_halted ≡ false → measure bound r.machine + 1 ≤ fuel) → Rests r
  rests_within bound zero r w few h = (r, (zero, refl, grind decide))
  rests_within bound (suc fuel) r w few h = go (is_still r.machine) refl (rests_within bound fuel (after_step says r))
    where
      later : Running
      later = after_step says r

      go : (b : Bool) → is_still r.machine ≡ b
          → (later.machine.work ≤ 10000 → reserve later.machine ≤ bound
          → (later.machine.is_halted ≡ false → measure bound later.machine + 1 ≤ fuel) → Rests later) → Rests r
      go true still further = (r, (zero, refl, still))
      go false live further =
          let f = step-falls bound (choices_after says r.entries) r.machine w few live in
          let rest = further f.work (omega (arith, few))
          (λ running. omega (arith, f.measure running, h (grind (decide, live)))) in
          (rest.0, (suc rest.1.0, rest.1.1, rest.1.2))

  -- from any machine within the work limit
  rests : (r : Running) → r.machine.work ≤ 10000 → Rests r
  rests r w = rests_within (reserve r.machine) (measure (reserve r.machine) r.machine + 1) r w (omega arith) (λ running. omega arith)

  -- after a halt nothing follows, otherwise the next inputs
  goes_on : (input : Input) (inputs : List Input) (r : Running) → Rests r → ((rested : Running) → Ends inputs (with_input input rested))
      → Ends (input ∷ inputs) r
  goes_on input inputs r (rested, rests) later = go rested.machine.is_halted refl
    where
      go : (b : Bool) → rested.machine.is_halted ≡ b → Ends (input ∷ inputs) r
      go true halted = (rested, (rested, rests, (λ _. refl), (λ running. absurd (cc))))
      go false running =
          let next = later rested in
          (next.0, (rested, rests, (λ halted. absurd (cc)), (λ _. next.1)))

  -- for each list of inputs there is a run
  runs_on : (inputs : List Input) (r : Running) → r.machine.work ≤ 10000 → Ends inputs r
  runs_on [] r w = rests r w
  runs_on (input ∷ inputs) r w =
      goes_on input inputs r (rests r w) (λ rested. runs_on inputs (with_input input rested) (omega (arith, fed-work input rested.machine)))

pub run_of : (config : Config) (says : Applications) (inputs : List Input) → (after : Running) × Runs says (at_start config) inputs after
run_of = grind (decide, runs_on)
