-- The timers after the first due one was taken.
use Rattle.std.specs.Prelude.{ℕ, Option, Some, None}
use Rattle.timer_core.specs.declared.timer.Timer.{Timer}
use Rattle.timer_core.specs.Timers.{Timers, stop_timer, first_due}

abbrev pub stop_if_any : Option Timer → Timers → Timers
stop_if_any None timers = timers
stop_if_any (Some timer) timers = stop_timer timer timers

-- that one is off the list
abbrev pub without_first_due : ℕ → Timers → Timers
without_first_due clock timers = stop_if_any (first_due clock timers) timers
