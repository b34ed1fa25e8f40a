-- The names of the timers.
use Rattle.std.specs.Prelude.{Bool, false, ◌&&◌, ◌==◌, List, ◌++◌, map, flat_map}
use Rattle.std.specs.List.{range_with_len}
use Rattle.mote_types.specs.Kinds.{ProcessNumber, TimerNumber}
use Rattle.mote_types.specs.Limits.{first_application, most_applications, timers_each, callback_timers_each}
use Rattle.timer_core.specs.declared.timer.Timer.{Timer}

abbrev pub event_timer : ProcessNumber → TimerNumber → Timer
event_timer p t = Timer.Event (record { 0 = p }) t

abbrev pub callback_timer : ProcessNumber → TimerNumber → Timer
callback_timer p c = Timer.Callback (record { 0 = p }) c

unfoldable pub all_timers : List Timer
all_timers =
    flat_map
    (λ p. map (event_timer p) (range_with_len 0 timers_each) ++ map (callback_timer p) (range_with_len 0 callback_timers_each))
    (range_with_len first_application most_applications)

abbrev pub is_timer : Timer → Timer → Bool
is_timer (Timer.Event p t) (Timer.Event q u) = p.0 == q.0 && t == u
is_timer (Timer.Callback p c) (Timer.Callback q d) = p.0 == q.0 && c == d
is_timer _ _ = false

abbrev pub is_event_timer_of : ProcessNumber → Timer → Bool
is_event_timer_of p (Timer.Event q t) = p == q.0
is_event_timer_of p (Timer.Callback q c) = false

abbrev pub is_callback_timer_of : ProcessNumber → Timer → Bool
is_callback_timer_of p (Timer.Event q t) = false
is_callback_timer_of p (Timer.Callback q c) = p == q.0
