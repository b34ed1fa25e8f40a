use Rattle.timer_core.proofs.Lemmas.{◌≡◌, length, led_to, listed_from, timers_of}
use Rattle.timer_core.specs.Code.Links.{IsList}
use Rattle.timer_core.specs.Code.Earliest.{earliest_with}
use Rattle.timer_core.specs.Deadlines.{earliest_of, next_deadline}
use Rattle.timer_core.proofs.table.TimerTable.next_deadline.Given as goal

-- what is known so far, with the timers ahead
abbrev pub invariant-loop-link : goal.invariant-loop-link
invariant-loop-link l =
    record {
      list : IsList l.self-inside.cells (led_to l.link);
      known : earliest_with l.earliest (earliest_of (timers_of l.self-inside) (listed_from l.self-inside.cells (led_to l.link)))
          ≡ next_deadline (timers_of l.self-inside);
    }

abbrev pub decreases-loop-link : goal.decreases-loop-link
decreases-loop-link l = length (listed_from l.self-inside.cells (led_to l.link))
