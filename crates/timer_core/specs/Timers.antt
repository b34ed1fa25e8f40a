-- Event timers and callback timers: their cells, and one list of those that are armed.
use Rattle.std.specs.Prelude.{◌+◌, ◌*◌, Bool, not, List, [], ◌∷◌, filter, find, map, Option, if◌then◌else◌, nat_le}
use Rattle.std.specs.List.{list_any}
use Rattle.std.specs.Option.{option_map_or}
use Rattle.mote_types.specs.Kinds.{ProcessNumber, Ticks}
use Rattle.mote_types.specs.Limits.{last_deadline}
use Rattle.timer_core.specs.declared.timer.Timer.{Timer}
use Rattle.timer_core.specs.declared.timer.Cell.{Cell}
use Rattle.timer_core.specs.Names.{all_timers, is_timer, is_event_timer_of, is_callback_timer_of}

pub record NamedCell : Type 0 where
  pub timer : Timer
  pub cell : Cell

pub record Timers : Type 0 where
  pub cells : List NamedCell
  -- the timer list, the head first
  pub armed : List Timer

abbrev pub zero_cell : Cell
zero_cell = record { start = 0; interval = 0 }

abbrev pub no_timers : Timers
no_timers = record { cells = map (λ timer. record { timer = timer; cell = zero_cell }) all_timers; armed = [] }

abbrev pub cell_of : Timer → Timers → Cell
cell_of timer timers = option_map_or (λ named. named.cell) (find (λ named. is_timer timer named.timer) timers.cells) zero_cell

abbrev pub with_cell : Timer → Cell → List NamedCell → List NamedCell
with_cell timer cell cells = map (λ (named : NamedCell). if is_timer timer named.timer then record named { cell = cell } else named) cells

abbrev pub is_armed : Timer → Timers → Bool
is_armed timer timers = list_any (is_timer timer) timers.armed

-- the timer has this cell and is on the list: at its old position, or at the head if it is new there
abbrev pub armed_with : Timer → Cell → Timers → Timers
armed_with timer cell timers =
    record { cells = with_cell timer cell timers.cells; armed = if is_armed timer timers then timers.armed else timer ∷ timers.armed }

-- the timer expires `interval` ticks from now
abbrev pub set_timer : Ticks → Timer → Ticks → Timers → Timers
set_timer clock timer interval = armed_with timer (record { start = clock; interval = interval })

-- its interval begins again now
abbrev pub restart_timer : Ticks → Timer → Timers → Timers
restart_timer clock timer timers = armed_with timer (record (cell_of timer timers) { start = clock }) timers

abbrev pub deadline : Cell → Ticks
deadline cell = cell.start + cell.interval

-- the next interval begins at the old deadline, not now
abbrev pub reset_timer : Timer → Timers → Timers
reset_timer timer timers = armed_with timer (record (cell_of timer timers) { start = deadline (cell_of timer timers) }) timers

-- whether the deadline after a reset is at most the last one that a timer may have
abbrev pub can_reset : Timer → Timers → Bool
can_reset timer timers = nat_le ((cell_of timer timers).start + 2 * (cell_of timer timers).interval) last_deadline

abbrev pub stop_timer : Timer → Timers → Timers
stop_timer timer timers = record timers { armed = filter (λ other. not (is_timer timer other)) timers.armed }

abbrev pub is_due : Ticks → Timers → Timer → Bool
is_due clock timers timer = nat_le (deadline (cell_of timer timers)) clock

abbrev pub first_due : Ticks → Timers → Option Timer
first_due clock timers = find (is_due clock timers) timers.armed

abbrev pub without_event_timers : ProcessNumber → Timers → Timers
without_event_timers p timers = record timers { armed = filter (λ timer. not (is_event_timer_of p timer)) timers.armed }

abbrev pub without_callback_timers : ProcessNumber → Timers → Timers
without_callback_timers p timers = record timers { armed = filter (λ timer. not (is_callback_timer_of p timer)) timers.armed }
