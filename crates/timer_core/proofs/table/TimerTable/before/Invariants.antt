use Rattle.timer_core.proofs.Lemmas.{◌≡◌, false, List, Timer, is_timer, length, led_to, list_any, listed_from, Walked}
use Rattle.timer_core.proofs.table.TimerTable.before.Given as goal

-- none of the passed timers is this one
abbrev pub invariant-loop-link : goal.invariant-loop-link
invariant-loop-link l =
    record {
      earlier : List Timer;
      walked : Walked l.self-inside.cells l.self-inside.first l.before l.link earlier;
      absent : list_any (is_timer l.fn.timer) earlier ≡ false;
    }

abbrev pub decreases-loop-link : goal.decreases-loop-link
decreases-loop-link l = length (listed_from l.self-inside.cells (led_to l.link))
