-- Items that are no jobs, as silent steps of the machine.
use Rattle.std.proofs.Common.{◌≡◌, ℕ, zero, suc, false, refl, subst, None}
use Rattle.process_core.specs.Code.Yields.{Yields}
use Rattle.kernel_core.proofs.Common.{option_map, Job, job_carrying, carrying, Scheduler, job, after_front, after_items, ComesTo, ComesToJob, Armings, is_cancelled, Machine, Choices, silent, one_step, job_done, Silently, GoesSilently}
use Rattle.kernel_core.proofs.Repeating.{after_items-keep}
use Rattle.kernel_core.proofs.Carrying.{after_front-carrying, job-carrying}

pub silently_here : {choices : Choices} (m : Machine) → GoesSilently choices m m
silently_here m = record { count = 0; steps = refl }

pub silent_step : {choices : Choices} {a b : Machine} → one_step choices a ≡ silent b → GoesSilently choices a b
silent_step {b = b} e = record { count = 1; steps = (b, e, refl) }

silently_on : (choices : Choices) (n : ℕ) (a b c : Machine) → Silently choices n a b → GoesSilently choices b c → GoesSilently choices a c
silently_on choices zero a b c same later = rw same later
silently_on choices (suc n) a b c (next, first, rest) later =
    let on = silently_on choices n next b c rest later in record { count = suc on.count; steps = (next, first, on.steps) }

pub goes_on : {choices : Choices} {a b c : Machine} → GoesSilently choices a b → GoesSilently choices b c → GoesSilently choices a c
goes_on {choices} {a} {b} {c} first later = silently_on choices first.count a b c first.steps later

-- one machine, with different schedulers
module _ (armings : Armings) (choices : Choices) (m : Machine) (running : m.is_halted ≡ false) where
  abbrev at : Scheduler ℕ → Machine
  at s = record m { scheduler = carrying (is_cancelled armings) s }

  -- a step of the machine: a step of the scheduler, and its job
  one_step_at : (s : Scheduler ℕ)
      → one_step choices (at s) ≡ job_done choices (option_map (job_carrying (is_cancelled armings)) (job s)) (at (after_front s))
  one_step_at s = rw (running, job-carrying (is_cancelled armings) s, after_front-carrying (is_cancelled armings) s) refl

  after_items_silently : (n : ℕ) (s : Scheduler ℕ) → GoesSilently choices (at s) (at (after_items n s))
  after_items_silently n s =
      after_items-keep (λ t. GoesSilently choices (at s) (at t))
      (λ t none so_far. goes_on so_far (silent_step (rw (one_step_at t, none) refl))) n s (silently_here (at s))

  pub items_silently : (s after : Scheduler ℕ) → Yields s None after → GoesSilently choices (at s) (at after)
  items_silently s after (n, same) = subst (λ t. GoesSilently choices (at s) (at t)) same (after_items_silently n s)

  pub job_reached : (s after : Scheduler ℕ) (next : Job ℕ) → ComesTo s next after → ComesToJob armings choices (at s) next (at after)
  job_reached s after next (n, asks, works) = record {
    last = at (after_items n s);
    before = after_items_silently n s;
    asked = rw (one_step_at (after_items n s), asks, works) refl;
  }
