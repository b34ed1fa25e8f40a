-- The moment from which on a timer may be due.
use Rattle.std.specs.Prelude.{◌≡◌, ℕ, ◌<◌, None}
use Rattle.timer_core.specs.Timers.{Timers, first_due}

-- before this moment no timer on the list is due
abbrev pub NoneDueBefore : ℕ → Timers → Type 0
NoneDueBefore moment timers = (clock : ℕ) → clock < moment → first_due clock timers ≡ None
