-- What items of the agenda lead to that are processed together.
use Rattle.std.specs.Prelude.{◌≡◌, ℕ, Option, Some, None}
use Rattle.process_core.specs.Agenda.{Job}
use Rattle.process_core.specs.Scheduler.{Scheduler}
use Rattle.process_core.specs.Code.Items.{after_items, ComesTo}

module _ {X : Type 0} where
  -- Items are processed: up to this job where there is one, and otherwise some that are no jobs
  abbrev pub Yields : Scheduler X → Option (Job X) → Scheduler X → Type 0
  Yields s None after = (n : ℕ) × (after_items n s ≡ after)
  Yields s (Some next) after = ComesTo s next after
