-- When the next timer runs out.
use Rattle.std.specs.Prelude.{List, [], ◌∷◌, min, Option, None, Some}
use Rattle.mote_types.specs.Kinds.{Ticks}
use Rattle.timer_core.specs.declared.timer.Timer.{Timer}
use Rattle.timer_core.specs.Timers.{Timers, cell_of, deadline}

abbrev pub earlier_of : Ticks → Option Ticks → Ticks
earlier_of moment None = moment
earlier_of moment (Some other) = min moment other

abbrev pub earliest_of : Timers → List Timer → Option Ticks
earliest_of timers [] = None
earliest_of timers (timer ∷ later) = Some (earlier_of (deadline (cell_of timer timers)) (earliest_of timers later))

abbrev pub next_deadline : Timers → Option Ticks
next_deadline timers = earliest_of timers timers.armed
