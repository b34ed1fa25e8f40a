-- Worked examples: what a due timer reports, and the next deadline.
use Rattle.std.proofs.Common.{◌≡◌, refl}
use Rattle.std.specs.Prelude.{List, [], ◌∷◌, Some, None}
use Rattle.timer_core.proofs.Words.{ℕ, ◌≤◌, ◌<◌, Pid, Armings}
use Rattle.timer_core.specs.declared.due.Due.{Due}
use Rattle.timer_core.specs.declared.timer.Timer.{Timer}
use Rattle.timer_core.specs.Code.NumberedTimers.{IsDue}
use Rattle.timer_core.specs.Deadlines.{next_deadline}
use Rattle.timer_core.specs.Names.{event_timer}
use Rattle.timer_core.specs.Timers.{Timers}

module _ (armings : Armings) where
  module _ (p : Pid) where
    -- it is an application's
    owned : (t : ℕ) → IsDue armings (Due.Timer p t) → (4 ≤ p.0) × (p.0 ≤ 19) × (t < 8)
    owned t due = due

    -- an expiry's number was drawn
    drawn : (c arming : ℕ) → IsDue armings (Due.Callback p c arming) → arming < armings.drawn
    drawn c arming due = due.1

-- timer 0 of process 4 has deadline 10, timer 1 deadline 5, armed or not
abbrev of_two : List Timer → Timers
of_two armed =
    record {
      cells =
          record { timer = event_timer 4 0; cell = record { start = 3; interval = 7 } }
          ∷ record { timer = event_timer 4 1; cell = record { start = 0; interval = 5 } } ∷ [];
      armed = armed;
    }

-- the earliest deadline, anywhere on the list
last_is_earliest : next_deadline (of_two (event_timer 4 0 ∷ event_timer 4 1 ∷ [])) ≡ Some 5
last_is_earliest = refl

first_is_earliest : next_deadline (of_two (event_timer 4 1 ∷ event_timer 4 0 ∷ [])) ≡ Some 5
first_is_earliest = refl

-- a timer that isn't armed doesn't count
one_is_armed : next_deadline (of_two (event_timer 4 0 ∷ [])) ≡ Some 10
one_is_armed = refl

none_is_armed : next_deadline (of_two []) ≡ None
none_is_armed = refl
