use Rattle.timer_core.proofs.Lemmas.{◌≡◌, ℕ, ◌<◌, false, List, Timer, is_due, length, led_to, list_any, listed_from, timers_of, Walked}
use Rattle.timer_core.proofs.table.TimerTable.look.Given as goal

-- no passed timer is due, nor will be before the earliest of their deadlines
abbrev pub invariant-loop-link : goal.invariant-loop-link
invariant-loop-link l =
    record {
      earlier : List Timer;
      walked : Walked l.self-inside.cells l.self-inside.first l.passed.last l.link earlier;
      now : list_any (is_due l.clock (timers_of l.self-inside)) earlier ≡ false;
      undue : (moment : ℕ) → moment < l.passed.earliest → list_any (is_due moment (timers_of l.self-inside)) earlier ≡ false;
    }

abbrev pub decreases-loop-link : goal.decreases-loop-link
decreases-loop-link l = length (listed_from l.self-inside.cells (led_to l.link))
