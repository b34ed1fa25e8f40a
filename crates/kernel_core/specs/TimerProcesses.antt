-- Process 0 (etimer), which posts the timers that have run out, and process 1 (ctimer), for callback timers.
use Rattle.std.specs.Prelude.{Bool, false, ◌&&◌, Option, Some, None, is_some, if◌then◌else◌, ◌==◌, nat_le}
use Rattle.mote_types.specs.Kinds.{ProcessNumber}
use Rattle.mote_types.specs.Limits.{etimer_process, first_application, last_application}
use Rattle.mote_types.specs.declared.event.Event.{Event}
use Rattle.mote_types.specs.declared.event.Payload.{Payload}
use Rattle.mote_types.specs.EventNumbers.{POLL, EXITED, TIMER}
use Rattle.mote_types.specs.Codes.{number_event}
use Rattle.process_core.specs.Agenda.{Queued}
use Rattle.timer_core.specs.declared.timer.Timer.{Timer}
use Rattle.timer_core.specs.Timers.{first_due, stop_timer, without_event_timers, without_callback_timers}
use Rattle.kernel_core.specs.Expiries.{expiries_cancelled}
use Rattle.kernel_core.specs.Machine.{Machine, with_timers, with_event, free_places, mark}
use Rattle.kernel_core.specs.Repeating.{times}

-- the application that an EXITED event names. No other process exits
abbrev pub exited_application : Payload → Option ProcessNumber
exited_application (Payload.Num p) = if nat_le first_application p && nat_le p last_application then Some p else None
exited_application _ = None

-- the event that is posted when a timer expires
abbrev pub expiry_of : Timer → Queued Bool
expiry_of (Timer.Event p t) = Queued.To p.0 (number_event TIMER t)
expiry_of (Timer.Callback p c) = Queued.Expiry p.0 c false

abbrev pub post_expiry : Option Timer → Machine → Machine
post_expiry None m = m
post_expiry (Some timer) m = with_event (expiry_of timer) (with_timers (stop_timer timer m.timers) m)

abbrev pub post_first_due : Machine → Machine
post_first_due m = post_expiry (first_due m.clock m.timers) m

abbrev pub is_any_due : Machine → Bool
is_any_due m = is_some (first_due m.clock m.timers)

-- For each free slot of the queue the first due timer is posted. If a due timer is left, etimer is polled again
abbrev pub post_due : Machine → Machine
post_due m =
    let after = times (free_places m) post_first_due m in
    if is_any_due after then mark etimer_process after else after

abbrev pub forget_event_timers : Option ProcessNumber → Machine → Machine
forget_event_timers None m = m
forget_event_timers (Some p) m = with_timers (without_event_timers p m.timers) m

abbrev pub etimer : Event → Machine → Machine
etimer event m =
    if event.code == POLL then post_due m
    else if event.code == EXITED then forget_event_timers (exited_application event.payload) m
    else m

abbrev pub forget_callback_timers : Option ProcessNumber → Machine → Machine
forget_callback_timers None m = m
forget_callback_timers (Some p) m = expiries_cancelled (λ q c. q == p) (with_timers (without_callback_timers p m.timers) m)

abbrev pub ctimer : Event → Machine → Machine
ctimer event m = if event.code == EXITED then forget_callback_timers (exited_application event.payload) m else m
