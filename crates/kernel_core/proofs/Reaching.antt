-- Jobs of the scheduler, as steps of the kernel's machine.
use Rattle.std.proofs.Common.{◌≡◌, ◌≤◌, ℕ, false, ◌∷◌, ◌∙◌, refl, arith, None, Some}
use Rattle.kernel_core.proofs.Common.{Entry, Item, Job, job_carrying, SchedulerView, ComesTo, Armings, KernelFields, Machine, shown_first, Choices, silent, job_done, MakesEntry, GoesSilently, machine_of, no_pending_entries, pending_items, is_cancelled, ComesToJob}
use Rattle.kernel_core.specs.Code.Pending.{Pending}
use Rattle.kernel_core.proofs.Silent.{goes_on, items_silently, job_reached, silent_step, silently_here}
use Rattle.process_core.specs.Code.Yields.{Yields}
use Rattle.kernel_core.specs.Code.OpenTurns.{HasWorked, WorksUpTo}
use Rattle.kernel_core.specs.Code.Steps.{GoesOn}
use Rattle.kernel_core.specs.declared.step.Step.{Step}
use Rattle.kernel_core.specs.declared.step.StepOutcome.{StepOutcome}
use Rattle.kernel_core.specs.declared.turn.Turn.{Turn}

pub fields_reach : (choices : Choices) (k : KernelFields) (view : SchedulerView) (next : Job ℕ) → k.halted ≡ false
    → k.pending ≡ no_pending_entries →
    ComesTo k.scheduler.state next view.state
    → ComesToJob k.timers.value.armings choices (machine_of k) next (machine_of (record k { scheduler = view }))
fields_reach choices k view next running bare comes =
    rw bare (job_reached k.timers.value.armings choices (machine_of k) running k.scheduler.state view.state next comes)

-- items that are no jobs are silent steps
pub fields_go : (choices : Choices) (k : KernelFields) (view : SchedulerView) → k.halted ≡ false → k.pending ≡ no_pending_entries
    → Yields k.scheduler.state None view.state → GoesSilently choices (machine_of k) (machine_of (record k { scheduler = view }))
fields_go choices k view running bare yields =
    rw bare (items_silently k.timers.value.armings choices (machine_of k) running k.scheduler.state view.state yields)

module _ {choices : Choices} where
  module _ {armings : Armings} {next : Job ℕ} {a b : Machine} where
    pub then_job : {c : Machine} → GoesSilently choices a b → ComesToJob armings choices b next c → ComesToJob armings choices a next c
    then_job first reached = record { last = reached.last; before = goes_on first reached.before; asked = reached.asked }

    module _ {d : Machine} (reached : ComesToJob armings choices a next b) where
      pub job_silently : job_done choices (Some (job_carrying (is_cancelled armings) next)) b ≡ silent d → GoesSilently choices a d
      job_silently e = goes_on reached.before (silent_step (reached.asked ∙ e))

      pub job_makes : {entry : Entry} → job_done choices (Some (job_carrying (is_cancelled armings) next)) b ≡ (d, Some entry)
          → MakesEntry choices a entry d
      job_makes e = record { last = reached.last; before = reached.before; makes = reached.asked ∙ e }

  -- a pending entry is shown first
  pub entry_is_shown : {entry : Entry} (k : KernelFields) (left : Pending) → k.halted ≡ false
      → pending_items k.pending ≡ Item.Show entry ∷ pending_items left →
      MakesEntry choices (machine_of k) entry (machine_of (record k { pending = left }))
  entry_is_shown k left running e = record { last = machine_of k; before = silently_here (machine_of k); makes = rw (running, e) refl }

  pub entry_comes_first : (entry : Entry) (m new : Machine) → new ≡ m → new.is_halted ≡ false
      → MakesEntry choices (shown_first entry m) entry new
  entry_comes_first entry m new same running =
      record { last = shown_first entry m; before = silently_here (shown_first entry m); makes = rw (← same, running) refl }

  pub makes_after : {a b c : Machine} {entry : Entry} → GoesSilently choices a b → MakesEntry choices b entry c
      → MakesEntry choices a entry c
  makes_after first later = record { last = later.last; before = goes_on first later.before; makes = later.makes }

  pub goes_after : (a b c : Machine) (step : Step) → b.is_halted ≡ false → GoesSilently choices a b → GoesOn choices b step c
      → GoesOn choices a step c
  goes_after a b c (Step.Entry entry) running first later = makes_after first later
  goes_after a b c Step.Rest running first later = record { before = goes_on first later.before; at_rest = later.at_rest }
  goes_after a b c Step.Halted running first later = cc

-- work that continues after only the scheduler and the work count changed
pub worked_after : {outcome : StepOutcome} {turn : Turn} {before other : Entry} (old between new : KernelFields)
    → between ≡ record old { work = between.work; scheduler = between.scheduler }
    → between.scheduler.state.applications ≡ old.scheduler.state.applications → old.work ≤ between.work
    → HasWorked outcome turn before other between new → HasWorked outcome turn before other old new
worked_after {outcome} {turn} {before} {other} old between new kept applications more worked = grind arith

-- unless a turn began, the buffer of turns doesn't matter
pub worked_apart : {before other : Entry} {old new : KernelFields} (outcome : StepOutcome) (turn any : Turn)
    → (outcome ≡ StepOutcome.Turn → ⊥) → WorksUpTo outcome turn before other old new → WorksUpTo outcome any before other old new
worked_apart StepOutcome.Turn turn any other worked = absurd (other refl)
worked_apart StepOutcome.Other turn any other worked = grind arith
worked_apart StepOutcome.Rest turn any other worked = grind arith
worked_apart StepOutcome.Halted turn any other worked = grind arith
