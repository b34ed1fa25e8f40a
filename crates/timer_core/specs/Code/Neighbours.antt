-- The timer before a timer on the list.
use Rattle.std.specs.Prelude.{◌≡◌, ℕ, List, [], ◌∷◌, ◌++◌, Option, Some, None}
use Rattle.timer_core.specs.declared.timer.Timer.{Timer}
use Rattle.timer_core.specs.Code.Slots.{timer_at}

-- the last of these timers has that slot; without one they are none
abbrev pub EndsWith : Option ℕ → List Timer → Type 0
EndsWith None list = list ≡ []
EndsWith (Some slot) list = (earlier : List Timer) × (list ≡ earlier ++ timer_at slot ∷ [])

-- the timer is right after that slot; without one it is the head
pub record Follows (last : Option ℕ) (timer : Timer) (armed : List Timer) : Type 0 where
  pub earlier : List Timer
  pub later : List Timer
  pub listed : armed ≡ earlier ++ timer ∷ later
  pub ends : EndsWith last earlier
