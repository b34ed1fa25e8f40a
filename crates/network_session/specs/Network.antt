-- What contracts see of a network.
use Rattle.std.specs.Prelude.{ℕ, List, map, Option}
use Rattle.medium_core.specs.Air.{Air}
use Rattle.mote_session.specs.SessionView.{SessionView}
use Rattle.network_session.specs.Waking.{wake}

pub record NetworkView : Type 0 where
  pub motes : List SessionView
  pub air : Air
  -- the mote that is at work
  pub active : Option ℕ
  -- how many motes were started
  pub started : ℕ
  -- how far time may go
  pub target : ℕ
  -- how many rounds an input can take, and how many are left of the present one. A round tells a mote the time, lets a frame
  -- arrive, or lets time go on
  pub bound : ℕ
  pub rounds : ℕ

-- when each mote must get the time
abbrev pub wakes_of : List SessionView → List ℕ
wakes_of motes = map (λ (mote : SessionView). wake mote.machine) motes
