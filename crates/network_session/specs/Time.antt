-- How the motes' clocks go with that of the network.
use Rattle.std.specs.Prelude.{◌≡◌, ℕ, ◌≤◌, false, slice_get, Option, Some}
use Rattle.mote_session.specs.SessionView.{SessionView}
use Rattle.network_session.specs.Network.{NetworkView}
use Rattle.network_session.specs.Waking.{wake}

-- of mote m, where this is the network's clock, the mote at work, and the number of those that were started
pub record IsTimely (clock : ℕ) (active : Option ℕ) (started m : ℕ) (mote : SessionView) : Type 0 where
  -- no mote is ahead
  pub not_ahead : mote.machine.clock ≤ clock
  -- the one at work has got the time
  pub at_work : active ≡ Some m → mote.machine.clock ≡ clock
  pub fresh : started ≤ m → mote.machine.clock ≡ clock
  -- no timer of another one ran out before now: its moment has not gone by
  pub awake : mote.machine.is_halted ≡ false → (active ≡ Some m → ⊥) → clock ≤ wake mote.machine

abbrev pub KeepsTime : NetworkView → Type 0
KeepsTime net = (m : ℕ) (mote : SessionView) → slice_get net.motes m ≡ Some mote → IsTimely net.air.clock net.active net.started m mote
