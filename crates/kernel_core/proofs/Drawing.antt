-- The number of arming numbers that the agenda will draw.
use Rattle.kernel_core.proofs.Common.{decide, All-head, All-tail, IsDistinct, AllByRecursion, Stimulus, Origin, EXITED, number_event, Queued, Item, Job, Process, numbers, without, IsDistinct-head, IsDistinct-tail, Scheduler, after_front_of, job_at, job_of_item, job_of_event, after_item, delivery, ComesTo, draws, draws_of_job, IsQueueable, IsQueueableJob}
use Rattle.std.proofs.Common.{◌≡◌, ℕ, ◌+◌, ◌≤◌, false, List, [], ◌∷◌, refl, arith, All, Option, Some, None, map, slice_get, drop, eqb}
use Rattle.process_core.specs.Requests.{ended, killed_by}
use Rattle.kernel_core.proofs.Repeating.{after_items-keep}
use Rattle.kernel_core.proofs.Totals.{total-append, total-none, total-nowhere}

module _ (drawn : ℕ) where
  draws-delivery : (ns : List ℕ) (events : List (Queued ℕ)) → All (IsQueueable drawn) events
      → draws (delivery ns (slice_get events 0)) ≡ 0
  draws-delivery ns [] fit = refl
  draws-delivery ns (event ∷ events) fit =
      grind (decide, total-nowhere, All-head (IsQueueable drawn) event events fit)

  pub all_fit_rest : (events : List (Queued ℕ)) → All (IsQueueable drawn) events → All (IsQueueable drawn) (drop 1 events)
  all_fit_rest [] fit = fit
  all_fit_rest (event ∷ events) fit = All-tail (IsQueueable drawn) event events fit

  fit_carried : (item : Item) (s : Scheduler ℕ) → All (IsQueueable drawn) s.events → All (IsQueueable drawn) (after_item item s).events
  fit_carried Item.Deliver s fit = all_fit_rest s.events fit
  fit_carried _ s fit = grind decide

  abbrev draws_asked : Option (Job ℕ) → ℕ
  draws_asked None = 0
  draws_asked (Some next) = draws_of_job next

  -- an item draws at most what it is counted for
  after_item-draws : (item : Item) (items : List Item) (s : Scheduler ℕ) → All (IsQueueable drawn) s.events
      → draws (after_item item (record s { agenda = items })).agenda + draws_asked (job_of_item item s) ≤ draws (item ∷ []) + draws items
  after_item-draws Item.Deliver items s fit = grind (decide, total-append, draws-delivery (numbers s.processes) s.events fit)
  after_item-draws _ items s fit = grind (decide, total-append, total-none)

  abbrev IsQueueableAsked : Option (Job ℕ) → Type 0
  IsQueueableAsked None = Unit {0}
  IsQueueableAsked (Some next) = IsQueueableJob drawn next

  fit_delivery : (events : List (Queued ℕ)) → All (IsQueueable drawn) events → IsQueueableAsked (job_of_event (slice_get events 0))
  fit_delivery (Queued.Expiry p c arming ∷ events) fit = All-head (IsQueueable drawn) (Queued.Expiry p c arming) events fit
  fit_delivery _ fit = tt

  module _ (agenda : List Item) (s : Scheduler ℕ) where
    fit_after_front_of : All (IsQueueable drawn) s.events
        → All (IsQueueable drawn) (after_front_of agenda s).events
    fit_after_front_of = grind (decide, fit_carried)

    after_front_of-draws : s.agenda ≡ agenda → All (IsQueueable drawn) s.events
        → draws (after_front_of agenda s).agenda + draws_asked (job_at agenda s) ≤ draws agenda
    after_front_of-draws = grind (decide, after_item-draws)

    fit_asked : All (IsQueueable drawn) s.events → IsQueueableAsked (job_at agenda s)
    fit_asked = grind (decide, fit_delivery)

  pub job_is_fit : (s after : Scheduler ℕ) (next : Job ℕ) → All (IsQueueable drawn) s.events → ComesTo s next after
      → All (IsQueueable drawn) after.events × (draws after.agenda + draws_of_job next ≤ draws s.agenda) × IsQueueableJob drawn next
  job_is_fit s after next fit (n, asks, works) =
      grind (
        decide,
        fit_after_front_of,
        fit_asked,
        after_items-keep (λ t. All (IsQueueable drawn) t.events × (draws t.agenda ≤ draws s.agenda))
            (λ t none so_far. (
              fit_after_front_of t.agenda t so_far.0,
              omega (arith, after_front_of-draws t.agenda t refl so_far.0, so_far.1),
            )) n s (fit, omega arith),
      )

module _ (p : ℕ) where
  abbrev told : List Process → List Item
  told list = map (λ q. Item.Give q Origin.Synch (Stimulus.Event (number_event EXITED p))) (numbers (without p list))

  none_told : (k : ℕ) (list : List Process) → AllByRecursion (λ y. eqb k y ≡ false) (numbers list) → k ≡ 1 → draws (told list) ≡ 0
  none_told k [] none one = refl
  none_told k (process ∷ list) none one = grind (decide, draws, none_told k list none.1 one)

  -- ctimer is on the list once, so it is notified once
  pub one_told : (list : List Process) → IsDistinct eqb (numbers list) → draws (told list) ≤ 4
  one_told [] distinct = omega arith
  one_told (process ∷ list) distinct =
      grind (
        decide,
        one_told list (IsDistinct-tail eqb process.number (numbers list) distinct),
        none_told process.number list
            (IsDistinct-head eqb process.number (numbers list) distinct),
      )

  pub ended-draws : (s : Scheduler ℕ) → IsDistinct eqb (numbers s.processes) → draws (ended p s).agenda ≤ draws s.agenda + 4
  ended-draws = grind (decide, one_told, total-append)

pub killed_by-draws : (p q : ℕ) (s : Scheduler ℕ) → IsDistinct eqb (numbers s.processes)
    → draws (killed_by p q s).agenda ≤ draws s.agenda + 4
killed_by-draws = grind (decide, total-append, one_told)
