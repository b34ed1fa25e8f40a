-- What the mote at work does whose caller makes the calls at once, or says them.
use Rattle.std.specs.Prelude.{◌≡◌, ℕ, List, Option, None, Some}
use Rattle.mote_types.specs.declared.call.Call.{Call}
use Rattle.mote_session.specs.SessionView.{SessionView}
use Rattle.mote_session.specs.declared.session.Next.{Next}
use Rattle.network_session.specs.Network.{NetworkView}
use Rattle.network_session.specs.Steps.{IsNetworkSubmitted, SubmittedIn, Worked, WorkedIn}

-- one mote took a turn, which is two steps
pub record TurnIn (m : ℕ) (old new : List SessionView) : Type 0 where
  pub mid : List SessionView
  pub call : Call
  pub opens : WorkedIn m Next.Turn old mid
  pub submitted : SubmittedIn m call mid new

-- one mote worked
abbrev pub WorksIn : ℕ → Next → List SessionView → List SessionView → Type 0
WorksIn m Next.Turn old new = TurnIn m old new
WorksIn m next old new = WorkedIn m next old new

-- the mote that is at work took a turn
pub record TakesTurn (m : ℕ) (old new : NetworkView) : Type 0 where
  pub mid : NetworkView
  pub call : Call
  pub opens : Worked m Next.Turn old mid
  pub submitted : IsNetworkSubmitted call mid new

abbrev pub Works : ℕ → Next → NetworkView → NetworkView → Type 0
Works m Next.Turn old new = TakesTurn m old new
Works m next old new = Worked m next old new

-- the call that was said is submitted for one mote. Without one nothing happens
abbrev pub SubmittedIfSaidIn : ℕ → Option Call → List SessionView → List SessionView → Type 0
SubmittedIfSaidIn m None old new = new ≡ old
SubmittedIfSaidIn m (Some call) old new = SubmittedIn m call old new
