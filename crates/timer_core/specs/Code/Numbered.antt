-- The arming numbers, as the code keeps them.
use Rattle.std.specs.Prelude.{◌≡◌, ◌<◌, length, All}
use Rattle.timer_core.specs.Code.Armings.{Armings}

-- each callback timer has a number that was drawn
pub record IsNumbered (armings : Armings) : Type 0 where
  pub slots : length armings.present ≡ 64
  pub below : All (λ arming. arming < armings.drawn) armings.present
