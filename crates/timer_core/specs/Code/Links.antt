-- How the table's links make the timer list.
use Rattle.std.specs.Prelude.{◌≡◌, ℕ, ◌≤◌, ◌^◌, zero, suc, Bool, false, List, [], ◌∷◌, length, find, All, Option, Some, None, slice_index_or}
use Rattle.std.specs.List.{list_any}
use Rattle.std.specs.Option.{option_map, option_map_or}
use Rattle.timer_core.specs.declared.timer.Cell.{Cell}
use Rattle.timer_core.specs.declared.timer.Timer.{Timer}
use Rattle.timer_core.specs.declared.table.LinkedCell.{LinkedCell}
use Rattle.timer_core.specs.declared.table.TimerTable.TheInside.{Inside}
use Rattle.timer_core.specs.Names.{all_timers, is_timer}
use Rattle.timer_core.specs.Code.Conditions.{IsNamed}
use Rattle.timer_core.specs.Code.LinkedCells.{cell_in}
use Rattle.timer_core.specs.Code.Slots.{slot_of, timer_at}
use Rattle.timer_core.specs.Timers.{NamedCell, Timers, zero_cell}

abbrev pub zero_linked : LinkedCell
zero_linked = record { start = 0; interval = 0; is_armed = false; next = None }

-- the timer that a link leads to
abbrev pub led_to : Option ℕ → Option Timer
led_to link = option_map timer_at link

-- the link in the timer's cell
abbrev pub link_of : List LinkedCell → Timer → Option ℕ
link_of cells timer = (slice_index_or cells (slot_of timer) zero_linked).next

-- the timer that follows
abbrev pub next_of : List LinkedCell → Timer → Option Timer
next_of cells timer = led_to (link_of cells timer)

-- the timers along the links, at most n of them
abbrev pub linked : ℕ → List LinkedCell → Option Timer → List Timer
linked zero cells link = []
linked (suc n) cells None = []
linked (suc n) cells (Some timer) = timer ∷ linked n cells (next_of cells timer)

-- all timers along the links
unfoldable pub listed_from : List LinkedCell → Option Timer → List Timer
listed_from cells link = linked 192 cells link

-- the links from this one on name these timers, and end there
abbrev pub Names : List LinkedCell → Option Timer → List Timer → Type 0
Names cells link [] = link ≡ None
Names cells link (timer ∷ later) = (link ≡ Some timer) × (IsNamed timer × Names cells (next_of cells timer) later)

-- no timer is named twice
abbrev pub AreApart : List Timer → Type 0
AreApart [] = Unit {0}
AreApart (timer ∷ later) = (list_any (is_timer timer) later ≡ false) × AreApart later

-- the links from this one on end, and pass no timer twice
pub record IsList (cells : List LinkedCell) (link : Option Timer) : Type 0 where
  pub ends : Names cells link (listed_from cells link)
  pub apart : AreApart (listed_from cells link)

-- whether the timer's cell says that it is on the list
abbrev pub flag_of : List LinkedCell → Timer → Bool
flag_of cells timer = (slice_index_or cells (slot_of timer) zero_linked).is_armed

-- each cell says whether its timer is among these
abbrev pub AreFlagged : List LinkedCell → List Timer → Type 0
AreFlagged cells armed = (timer : Timer) → IsNamed timer → flag_of cells timer ≡ list_any (is_timer timer) armed

pub record IsTable (table : Inside) : Type 0 where
  pub slots : length table.cells ≡ 192
  pub listed : IsList table.cells (led_to table.first)
  pub flags : AreFlagged table.cells (listed_from table.cells (led_to table.first))
  pub starts : All (λ linked_cell. linked_cell.start ≤ 2 ^ 63) table.cells

-- the cell of a timer among these
abbrev pub cell_under : Timer → List NamedCell → Cell
cell_under timer cells = option_map_or (λ named. named.cell) (find (λ named. is_timer timer named.timer) cells) zero_cell

-- the cells of the table, each under the name of its slot
abbrev pub named_cells : List Timer → List LinkedCell → List NamedCell
named_cells [] cells = []
named_cells (timer ∷ names) [] = []
named_cells (timer ∷ names) (linked_cell ∷ cells) = record { timer = timer; cell = cell_in linked_cell } ∷ named_cells names cells

abbrev pub timers_of : Inside → Timers
timers_of table = record { cells = named_cells all_timers table.cells; armed = listed_from table.cells (led_to table.first) }
