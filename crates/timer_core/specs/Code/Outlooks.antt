-- What a look along the timer list finds.
use Rattle.std.specs.Prelude.{◌≡◌, ℕ, ◌<◌, false, List, ◌∷◌, ◌++◌, Some, None}
use Rattle.std.specs.List.{list_any}
use Rattle.timer_core.specs.declared.table.Outlook.{Outlook}
use Rattle.timer_core.specs.declared.table.Passed.{Passed}
use Rattle.timer_core.specs.declared.timer.Timer.{Timer}
use Rattle.timer_core.specs.Code.Conditions.{IsNamed}
use Rattle.timer_core.specs.Code.Neighbours.{EndsWith}
use Rattle.timer_core.specs.Code.Slots.{timer_at}
use Rattle.timer_core.specs.Code.Watched.{NoneDueBefore}
use Rattle.timer_core.specs.Names.{is_timer}
use Rattle.timer_core.specs.Timers.{Timers, first_due, is_due}

-- so far the list was passed: the last timer has that slot, and none is due before that moment
pub record IsPassed (so_far : Passed) (timers : Timers) : Type 0 where
  pub earlier : List Timer
  pub later : List Timer
  pub listed : timers.armed ≡ earlier ++ later
  pub ends : EndsWith so_far.last earlier
  pub undue : (moment : ℕ) → moment < so_far.earliest → list_any (is_due moment timers) earlier ≡ false

-- and none of those that were passed is due now
pub record IsPassedAt (clock : ℕ) (so_far : Passed) (timers : Timers) : Type 0 where
  pub passed : IsPassed so_far timers
  pub now : list_any (is_due clock timers) passed.earlier ≡ false

-- the timer is right after those that were passed, and is on the list once
pub record IsNext (timer : Timer) (so_far : Passed) (timers : Timers) : Type 0 where
  pub passed : IsPassed so_far timers
  pub later : List Timer
  pub next : passed.later ≡ timer ∷ later
  pub once : list_any (is_timer timer) (passed.earlier ++ later) ≡ false

-- the first due timer, after those that were passed; or that there is none, nor will be before a moment
abbrev pub IsOutlook : ℕ → Timers → Outlook → Type 0
IsOutlook clock timers (Outlook.Due slot passed) =
    (first_due clock timers ≡ Some (timer_at slot)) × IsNamed (timer_at slot) × IsNext (timer_at slot) passed timers
IsOutlook clock timers (Outlook.NoneBefore moment) = (first_due clock timers ≡ None) × NoneDueBefore moment timers
