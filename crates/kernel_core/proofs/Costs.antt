-- The measure of the agenda falls with each executed item.
use Rattle.kernel_core.proofs.Common.{decide, length-map, Event, Stimulus, Origin, Queued, Item, Job, Process, starts, present, cost, costs, IsPaid, Scheduler, after_front, job, after_item, delivery, job_of_item, after_items, ComesTo}
use Rattle.std.proofs.Common.{◌≡◌, ℕ, ◌+◌, ◌*◌, ◌≤◌, Bool, List, [], ◌∷◌, ◌++◌, length, refl, arith, Option, Some, map, flat_map, filter}
use Rattle.kernel_core.proofs.Repeating.{after_items-keep}
use Rattle.kernel_core.proofs.Totals.{total-append, total-none, total-nowhere}
use Rattle.std.proofs.Math.Nat.{mul-zero, mul-suc, mul-le-mul_left}

pub length-without : (keep : Process → Bool) (list : List Process) → length (filter keep list) ≤ length list
length-without keep [] = omega arith
length-without keep (process ∷ list) = grind (arith, length-without keep list)

-- an item adds at most the processes that `starts` counts
after_item-present : {X : Type 0} (item : Item) (s : Scheduler X) → present (after_item item s) ≤ starts (item ∷ []) + present s
after_item-present = grind (decide, total-append, length-map, length-without, total-none, total-nowhere)

pub after_front-present : {X : Type 0} (s : Scheduler X) → present (after_front s) ≤ present s
after_front-present = grind (decide, after_item-present)

module _ (bound : ℕ) where
  pub costs-nil : costs bound [] ≡ 0
  unfolding costs
  costs-nil = refl

  pub costs-cons : (item : Item) (items : List Item) → costs bound (item ∷ items) ≡ cost bound item + costs bound items
  unfolding costs
  costs-cons item items = refl

  pub costs-append : (xs ys : List Item) → costs bound (xs ++ ys) ≡ costs bound xs + costs bound ys
  unfolding costs
  costs-append xs ys = total-append (cost bound) xs ys

  costs-polls : (ns : List ℕ) → costs bound (map (λ p. Item.PollOne p) ns) ≡ 3 * length ns
  unfolding costs
  costs-polls [] = refl
  costs-polls (n ∷ ns) = omega (arith, costs-polls ns)

  costs-broadcast : (event : Event) (ns : List ℕ) →
      costs bound (flat_map (λ p. Item.Polls ∷ Item.Give p Origin.Event (Stimulus.Event event) ∷ []) ns) ≡ (3 * bound + 3) * length ns
  unfolding costs
  costs-broadcast event [] = rw mul-zero refl
  costs-broadcast event (n ∷ ns) = rw (mul-suc (3 * bound + 3) (length ns), costs-broadcast event ns) (omega arith)

  costs-delivery : {X : Type 0} (ns : List ℕ) (event : Option (Queued X)) → length ns ≤ bound
      → costs bound (delivery ns event) ≤ (3 * bound + 3) * bound + 2
  costs-delivery = grind (decide, costs-cons, costs-nil, costs-broadcast, mul-le-mul_left)

  paid_item : {X : Type 0} (item : Item) (s : Scheduler X) (items : List Item) → length s.processes ≤ bound →
      IsPaid bound (job_of_item item s) (cost bound item + costs bound items)
      (costs bound (after_item item (record s { agenda = items })).agenda)
  paid_item = grind (decide, length-map, costs-cons, costs-append, costs-delivery, costs-polls)

  pub paid : {X : Type 0} (s : Scheduler X) → present s ≤ bound
      → IsPaid bound (job s) (costs bound s.agenda) (costs bound (after_front s).agenda)
  paid = grind (decide, costs-cons, costs-nil, paid_item)

  -- the cost of the agenda after a job, against the cost before
  pub job_is_paid : {X : Type 0} (s after : Scheduler X) (next : Job X) → present s ≤ bound → ComesTo s next after →
      IsPaid bound (Some next) (costs bound s.agenda) (costs bound after.agenda) × (present after ≤ present s)
  job_is_paid s after next h (n, asks, works) =
      let r = after_items-keep (λ t. (costs bound t.agenda ≤ costs bound s.agenda) × (present t ≤ present s))
      (λ t none so_far. (
        omega (arith, rw none at (paid t (omega (arith, so_far.1, h)))),
        omega
            (arith, after_front-present t, so_far.1),
      )) n s (omega arith, omega arith) in
      grind (decide, after_front-present, (rw (asks, works) at (paid (after_items n s) (omega (arith, r.1, h)))))
