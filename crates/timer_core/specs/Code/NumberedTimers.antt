-- The timers of all applications, and what has run out.
use Rattle.std.specs.Prelude.{◌<◌}
use Rattle.timer_core.specs.declared.due.Due.{Due}
use Rattle.timer_core.specs.declared.timer.Timer.{Timer}
use Rattle.timer_core.specs.Code.Armings.{Armings, no_armings, present_arming}
use Rattle.timer_core.specs.Code.Conditions.{IsNamed}
use Rattle.timer_core.specs.Timers.{Timers, no_timers}

pub record NumberedTimers : Type 0 where
  pub timers : Timers
  pub armings : Armings

abbrev pub at_boot : NumberedTimers
at_boot = record { timers = no_timers; armings = no_armings }

-- a timer that has run out, a callback timer with its present number
abbrev pub due_of : Armings → Timer → Due
due_of armings (Timer.Event p t) = Due.Timer p t
due_of armings (Timer.Callback p c) = Due.Callback p c (present_arming p.0 c armings)

-- its name is in range, and its number was drawn
abbrev pub IsDue : Armings → Due → Type 0
IsDue armings (Due.Timer p t) = IsNamed (Timer.Event p t)
IsDue armings (Due.Callback p c arming) = IsNamed (Timer.Callback p c) × (arming < armings.drawn)
