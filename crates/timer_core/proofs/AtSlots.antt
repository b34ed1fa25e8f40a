-- The content of a slot of the table, by its timer.
use Rattle.timer_core.proofs.Words.{◌≡◌, ℕ, List, arith, get_or, LinkedCell, IsNamed, deadline, cell_in, cell_of, led_to, next_of, timer_at, timers_of, zero_linked}
use Rattle.timer_core.specs.declared.table.TimerTable.TheInside.{Inside}
use Rattle.timer_core.proofs.Cells.{cell_read}

module _ (cells : List LinkedCell) where
  module _ (k : ℕ) where
    pub next_at : IsNamed (timer_at k)
        → next_of cells (timer_at k) ≡ led_to (get_or cells k zero_linked).next
    next_at named = grind arith

module _ (table : Inside) where
  module _ (k : ℕ) where
    pub deadline_at : IsNamed (timer_at k) →
        deadline (cell_of (timer_at k) (timers_of table)) ≡ deadline (cell_in (get_or table.cells k zero_linked))
    deadline_at named = grind (arith, cell_read)
