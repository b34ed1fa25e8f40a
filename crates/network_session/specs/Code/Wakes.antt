-- What a network keeps true of its own parts.
use Rattle.std.specs.Prelude.{◌≡◌, ℕ, ◌≤◌, ◌<◌, ◌^◌, List, length, slice_set, Option, None, Some, IfSome}
use Rattle.mote_session.specs.SessionView.{SessionView}
use Rattle.network_session.specs.Network.{wakes_of}

-- the moments of all motes but the one that is at work
abbrev pub AreWakes : Option ℕ → List SessionView → List ℕ → Type 0
AreWakes None motes wakes = wakes ≡ wakes_of motes
AreWakes (Some m) motes wakes = (moment : ℕ) → slice_set wakes m moment ≡ slice_set (wakes_of motes) m moment

pub record IsSteady (active : Option ℕ) (motes : List SessionView) (wakes : List ℕ) (target : ℕ) : Type 0 where
  pub kept : AreWakes active motes wakes
  pub each : length wakes ≡ length motes
  pub within : IfSome active (λ m. m < length motes)
  pub far : target ≤ 2 ^ 62
