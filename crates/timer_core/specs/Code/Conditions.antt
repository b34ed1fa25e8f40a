-- What calls ask of the name of a timer.
use Rattle.std.specs.Prelude.{◌<◌, ◌≤◌}
use Rattle.mote_types.specs.Limits.{first_application, last_application, timers_each, callback_timers_each}
use Rattle.timer_core.specs.declared.timer.Timer.{Timer}

-- a timer of an application
abbrev pub IsNamed : Timer → Type 0
IsNamed (Timer.Event p t) = (first_application ≤ p.0) × (p.0 ≤ last_application) × (t < timers_each)
IsNamed (Timer.Callback p c) = (first_application ≤ p.0) × (p.0 ≤ last_application) × (c < callback_timers_each)
