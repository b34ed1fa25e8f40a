-- What a look along the timer list finds, and what stays true after the found timer leaves.
use Rattle.timer_core.proofs.Words.{◌≡◌, ℕ, ◌<◌, Bool, true, false, List, [], ◌∷◌, ◌++◌, refl, arith, Option, Some, None, find, IsTable, is_due, listed_from, next_of, timer_at, timers_of, list_any, Timer, Follows, Timers, stop_timer}
use Rattle.timer_core.specs.declared.table.Passed.{Passed}
use Rattle.timer_core.specs.declared.table.Outlook.{Outlook}
use Rattle.timer_core.specs.declared.table.TimerTable.TheInside.{Inside}
use Rattle.timer_core.specs.Code.Outlooks.{IsNext, IsOutlook, IsPassed}
use Rattle.std.proofs.lemmas.List.Folds.{list_any-append}
use Rattle.timer_core.proofs.LinkLemmas.{listed_from_none}
use Rattle.timer_core.proofs.Unlinking.{one_apart, others_middle}
use Rattle.timer_core.proofs.Walks.{Walked, passes_at}

module _ (test : Timer → Bool) where
  pub found_after : (earlier later : List Timer) → list_any test earlier ≡ false → find test (earlier ++ later) ≡ find test later
  found_after [] later none = refl
  found_after (t ∷ earlier) later none = grind (arith, found_after earlier later)

  pub none_of_more : (t : Timer) (earlier : List Timer) → list_any test earlier ≡ false → test t ≡ false
      → list_any test (earlier ++ t ∷ []) ≡ false
  none_of_more t earlier none undue = grind (arith, list_any-append)

module _ (timers : Timers) where
  abbrev pub nothing_passed : (earliest : ℕ) → IsPassed (record { last = None; earliest = earliest }) timers
  nothing_passed earliest = record { earlier = []; later = timers.armed; listed = refl; ends = refl; undue = λ _ _. refl }

  module _ (timer : Timer) (passed : Passed) (n : IsNext timer passed timers) where
    pub follows_passed : Follows passed.last timer timers.armed
    follows_passed = grind arith

    pub passed_without : IsPassed passed (stop_timer timer timers)
    passed_without = grind (arith, others_middle)

-- a walk that reaches a due timer, or the end of the list
module _ (table : Inside) (h : IsTable table) (passed : Passed) (link : Option ℕ) (earlier : List Timer) where
  module _ (w : Walked table.cells table.first passed.last link earlier) (clock : ℕ) where
    module _ (undue : (moment : ℕ) → moment < passed.earliest → list_any (is_due moment (timers_of table)) earlier ≡ false) where
      module _ (now : list_any (is_due clock (timers_of table)) earlier ≡ false) where
        pub due_here : (slot : ℕ) → link ≡ Some slot → is_due clock (timers_of table) (timer_at slot) ≡ true →
            IsOutlook clock (timers_of table) (Outlook.Due slot passed)
        due_here slot is due =
            let step = passes_at is w.list in
            let later = listed_from table.cells (next_of table.cells (timer_at slot)) in (
              grind (arith, found_after),
              step.named,
              record {
                passed = grind arith;
                later = later;
                next = refl;
                once = grind (arith, one_apart);
              },
            )

        pub none_here : link ≡ None → IsOutlook clock (timers_of table) (Outlook.NoneBefore passed.earliest)
        none_here is = grind (arith, listed_from_none, found_after)
