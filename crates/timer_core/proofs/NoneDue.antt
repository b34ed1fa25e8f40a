-- If no timer is due, none is due after an arming with a later deadline, or after a removal.
use Rattle.timer_core.proofs.Words.{◌≡◌, ℕ, ◌<◌, Bool, false, List, [], ◌∷◌, refl, arith, None, find, filter, Timer, Cell, is_timer, NamedCell, Timers, armed_with, is_due, deadline, cell_of, cell_under, with_cell, first_due}

none_found_in_fewer : {A : Type 0} (test keep : A → Bool) (items : List A) → find test items ≡ None → find test (filter keep items) ≡ None
none_found_in_fewer test keep [] none = refl
none_found_in_fewer test keep (a ∷ items) none = grind (arith, none_found_in_fewer test keep items)

module _ (t : Timer) where
  other_kept : (u : Timer) (cell : Cell) (cells : List NamedCell) → is_timer t u ≡ false
      → cell_under u (with_cell t cell cells) ≡ cell_under u cells
  other_kept u cell [] apart = refl
  other_kept u cell (named ∷ later) apart = grind (arith, other_kept u cell later apart)

module _ (clock : ℕ) where
  pub none_due_in_fewer : (keep : Timer → Bool) (timers : Timers) → first_due clock timers ≡ None →
      first_due clock (record timers { armed = filter keep timers.armed }) ≡ None
  none_due_in_fewer keep timers none = grind (arith, none_found_in_fewer)

  module _ (t : Timer) (cell : Cell) (timers : Timers) (later : clock < deadline (cell_of t (armed_with t cell timers))) where
    none_due_kept : (listed : List Timer) → find (is_due clock timers) listed ≡ None
        → find (is_due clock (armed_with t cell timers)) listed ≡ None
    none_due_kept [] none = refl
    none_due_kept (u ∷ listed) none = grind (arith, other_kept, none_due_kept listed)

    pub none_due_after_arming : first_due clock timers ≡ None → first_due clock (armed_with t cell timers) ≡ None
    none_due_after_arming none = grind (arith, none_due_kept)
