-- When motes must get the time.
use Rattle.std.specs.Prelude.{ℕ, ◌+◌, ◌-◌, max, min, if◌then◌else◌}
use Rattle.kernel_core.specs.Machine.{Machine}
use Rattle.mote_session.specs.SessionView.{SessionView}
use Rattle.mote_types.specs.declared.entry.Input.{Input}
use Rattle.timer_core.specs.Deadlines.{earlier_of, next_deadline}

-- the most ticks that a mote can sleep: one input has no more
abbrev pub longest_sleep : ℕ
longest_sleep = 4294967295

-- the moment of a halted mote, which never comes
abbrev pub never : ℕ
never = 18446744073709551615

-- the latest moment at which a mote must get the time: when its next timer expires
abbrev pub wake : Machine → ℕ
wake m =
    if m.is_halted then never
    else max (earlier_of (m.clock + longest_sleep) (next_deadline m.timers)) (m.clock + 1)

-- by how many ticks a mote with this clock is behind
abbrev pub due_ticks : ℕ → ℕ → ℕ
due_ticks now clock = min (now - clock) longest_sleep

-- the tick that gives it the time
abbrev pub due_tick : ℕ → SessionView → Input
due_tick now mote = Input.Tick (due_ticks now mote.machine.clock)
