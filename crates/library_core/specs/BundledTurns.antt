-- A turn that a bundled application takes, of a mote or a network that is used step by step.
use Rattle.std.specs.Prelude.{◌≡◌, ℕ, Option, Some, is_none, if◌then◌else◌}
use Rattle.mote_types.specs.declared.call.Call.{Call}
use Rattle.mote_session.specs.History.{with_call}
use Rattle.mote_session.specs.SessionView.{AwaitedCall, SessionView}
use Rattle.mote_session.specs.Steps.{HasSameInputs, IsSubmitted}
use Rattle.network_session.specs.Steps.{IsNetworkSubmitted}
use Rattle.network_steps.specs.Refusals.{awaited_turn}
use Rattle.network_steps.specs.StepsView.{StepsView}
use Rattle.library_core.specs.PlainApplications.{MakesCall, application_said}
use Rattle.library_core.specs.Steps.{GoesOn, Held, status_in}
use Rattle.library_core.specs.declared.application.PlainApplication.{PlainApplication}

-- 25 where no turn awaits a call, 17 where the struct says no application
abbrev pub turn_status : PlainApplication → Option AwaitedCall → ℕ
turn_status plain turn = if is_none turn then 25 else if is_none (application_said plain) then 17 else 0

abbrev pub bundled_status_of : PlainApplication → SessionView → ℕ
bundled_status_of plain session = turn_status plain session.turn

abbrev pub bundled_status : PlainApplication → Held → ℕ
bundled_status plain held = status_in held (bundled_status_of plain)

abbrev pub network_bundled_status : PlainApplication → StepsView → ℕ
network_bundled_status plain steps = turn_status plain (awaited_turn steps.net)

-- the application makes its call to what it received, and the mote executes it
pub record TakesTurn (before after : PlainApplication) (old new : SessionView) : Type 0 where
  pub turn : AwaitedCall
  pub awaited : old.turn ≡ Some turn
  pub call : Call
  pub makes : MakesCall call turn.stimulus before after
  pub submitted : IsSubmitted call old new
  pub inputs : HasSameInputs old new
  pub history : GoesOn (with_call old.turn call) old new

pub record NetworkTakesTurn (before after : PlainApplication) (old new : StepsView) : Type 0 where
  pub turn : AwaitedCall
  pub awaited : awaited_turn old.net ≡ Some turn
  pub call : Call
  pub makes : MakesCall call turn.stimulus before after
  pub submitted : IsNetworkSubmitted call old.net new.net
  pub same : new ≡ record old { net = new.net }
