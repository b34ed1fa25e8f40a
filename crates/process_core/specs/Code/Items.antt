-- Items that are processed up to a job, and the one that a callback puts at the front.
use Rattle.std.specs.Prelude.{ℕ, [], ◌∷◌, Some, if◌then◌else◌, zero, suc, is_some, ◌≡◌}
use Rattle.mote_types.specs.declared.event.Stimulus.{Stimulus}
use Rattle.mote_types.specs.declared.event.Origin.{Origin}
use Rattle.process_core.specs.Agenda.{Item, Job}
use Rattle.process_core.specs.Scheduler.{Scheduler, in_front, after_front, job}

module _ {X : Type 0} where
  -- the process gets the callback of its timer
  abbrev pub called_back : ℕ → ℕ → Scheduler X → Scheduler X
  called_back p number s = in_front (Item.Give p Origin.Callback (Stimulus.Callback number) ∷ []) s

  -- the scheduler after at most n items that are no jobs
  abbrev pub after_items : ℕ → Scheduler X → Scheduler X
  after_items zero s = s
  after_items (suc n) s =
      let later = after_items n (after_front s) in
      if is_some (job s) then s else later

  -- items are processed up to this job, and the job's own item
  abbrev pub ComesTo : Scheduler X → Job X → Scheduler X → Type 0
  ComesTo s next after = (n : ℕ) × (job (after_items n s) ≡ Some next) × (after_front (after_items n s) ≡ after)
