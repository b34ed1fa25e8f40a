-- What a session does whose caller makes the calls at once.
use Rattle.mote_types.specs.declared.call.Call.{Call}
use Rattle.mote_session.specs.SessionView.{SessionView}
use Rattle.mote_session.specs.Steps.{Advances, HasSameInputs, IsSubmitted}
use Rattle.mote_session.specs.declared.session.Next.{Next}

-- a step of the session
pub record DoesNext (next : Next) (old new : SessionView) : Type 0 where
  pub advances : Advances next old new
  pub same : HasSameInputs old new

-- the call of the turn that awaits it is submitted
pub record MakesCall (old new : SessionView) : Type 0 where
  pub call : Call
  pub submitted : IsSubmitted call old new
  pub same : HasSameInputs old new

-- an application receives something, and makes its call
pub record TakesTurn (old new : SessionView) : Type 0 where
  pub mid : SessionView
  pub opens : DoesNext Next.Turn old mid
  pub calls : MakesCall mid new

abbrev pub WorksBy : Next → SessionView → SessionView → Type 0
WorksBy Next.Turn old new = TakesTurn old new
WorksBy Next.Entry old new = DoesNext Next.Entry old new
WorksBy Next.Rest old new = DoesNext Next.Rest old new
WorksBy Next.Halted old new = DoesNext Next.Halted old new
