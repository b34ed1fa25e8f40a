-- The timers of a process, by its own turns only.
use Rattle.std.specs.Prelude.{ℕ, ◌+◌, Bool, false, ◌&&◌, ◌||◌, List, fold, count_by, if◌then◌else◌, ◌==◌, nat_le}
use Rattle.mote_types.specs.Kinds.{ProcessNumber, TimerNumber, Ticks}
use Rattle.mote_types.specs.declared.event.Stimulus.{Stimulus}
use Rattle.mote_types.specs.declared.event.Payload.{Payload}
use Rattle.mote_types.specs.declared.entry.Entry.{Entry}
use Rattle.mote_types.specs.EventNumbers.{TIMER}
use Rattle.timer_core.specs.declared.timer.Cell.{Cell}
use Rattle.timer_core.specs.Timers.{zero_cell, deadline}
use Rattle.kernel_core.specs.Laws.Deeds.{Deed, deed}
use Rattle.kernel_core.specs.Laws.OwnTurns.{OwnTurn, own, is_done, ticks_in}

abbrev pub clock_after : List Entry → Ticks
clock_after entries = fold (λ clock entry. clock + ticks_in entry) 0 entries

-- the cell of timer t after a call at that clock
abbrev pub cell_after : TimerNumber → Ticks → Deed → Cell → Cell
cell_after t clock (Deed.Sets u interval) cell = if u == t then record { start = clock; interval = interval } else cell
cell_after t clock (Deed.Restarts u) cell = if u == t then record cell { start = clock } else cell
cell_after t clock (Deed.Resets u) cell = if u == t then record cell { start = cell.start + cell.interval } else cell
cell_after t clock _ cell = cell

-- the call sets timer t, or begins its interval again
abbrev pub arms : TimerNumber → Deed → Bool
arms t (Deed.Sets u interval) = u == t
arms t (Deed.Restarts u) = u == t
arms t (Deed.Resets u) = u == t
arms t _ = false

abbrev pub stops : TimerNumber → Deed → Bool
stops t (Deed.Stops u) = u == t
stops t _ = false

abbrev pub is_number : ℕ → Payload → Bool
is_number n (Payload.Num m) = m == n
is_number n _ = false

abbrev pub is_timer_event : TimerNumber → Stimulus → Bool
is_timer_event t (Stimulus.Event event) = event.code == TIMER && is_number t event.payload
is_timer_event t _ = false

-- the number of TIMER events of timer t delivered to p
abbrev pub timer_events : List Entry → ProcessNumber → TimerNumber → ℕ
timer_events entries p t = count_by (λ turn. is_timer_event t turn.stimulus) (own p entries)

-- the state of timer t by the turns so far
pub record Standing : Type 0 where
  pub cell : Cell
  -- the last arming or stop was an arming
  pub is_armed : Bool
  -- a TIMER event was delivered after it
  pub was_given : Bool
  -- the earlier armings whose deadline came while they lasted
  pub ripe : ℕ

-- the last arming lasts, and its deadline has come by that clock
abbrev pub is_ripe : Ticks → Standing → Bool
is_ripe clock standing = standing.is_armed && nat_le (deadline standing.cell) clock

-- the armings whose deadline came while they lasted, by that clock
abbrev pub ripe_by : Ticks → Standing → ℕ
ripe_by clock standing = standing.ripe + (if is_ripe clock standing then 1 else 0)

-- that state after a turn
abbrev pub standing_after : TimerNumber → Standing → OwnTurn → Standing
standing_after t standing turn =
    if is_done turn.reply && (arms t (deed turn.call) || stops t (deed turn.call))
    then record {
      cell = cell_after t turn.clock (deed turn.call) standing.cell;
      is_armed = arms t (deed turn.call);
      was_given = false;
      ripe = ripe_by turn.clock standing;
    }
    else record standing { was_given = standing.was_given || is_timer_event t turn.stimulus }

-- the state of timer t of p after all entries
abbrev pub standing : List Entry → ProcessNumber → TimerNumber → Standing
standing entries p t =
    fold (standing_after t) (record { cell = zero_cell; is_armed = false; was_given = false; ripe = 0 }) (own p entries)
