-- The call that a struct says is submitted.
use Rattle.std.proofs.Common.{◌≡◌, true, is_some, refl, Option, None, Some}
use Rattle.mote_types.specs.declared.call.Call.{Call}
use Rattle.mote_session.specs.History.{with_call}
use Rattle.mote_session.specs.SessionView.{SessionView}
use Rattle.mote_session.specs.Steps.{IsSubmittedIfSaid}
use Rattle.network_session.specs.Steps.{IsNetworkSubmittedIfSaid}
use Rattle.network_steps.specs.StepsView.{StepsView}
use Rattle.library_core.specs.Calls.{call_said}
use Rattle.library_core.specs.NetworkCalls.{NetworkTakesCall}
use Rattle.library_core.specs.Steps.{GoesOn, TakesCall}
use Rattle.library_core.specs.declared.call.PlainCall.{PlainCall}

pub takes_call : (plain : PlainCall) (old new : SessionView) (said : Option Call) → call_said plain ≡ said → true ≡ is_some said →
    IsSubmittedIfSaid said old new → ((call : Call) → said ≡ Some call → GoesOn (with_call old.turn call) old new) → TakesCall plain old new
takes_call plain old new None is some submitted history = absurd (cc)
takes_call plain old new (Some call) is some submitted history = record {
  call = call;
  said = is;
  submitted = submitted.0;
  inputs = submitted.1;
  history = history call refl;
}

pub network_takes_call : (plain : PlainCall) (old new : StepsView) (said : Option Call) → call_said plain ≡ said → true ≡ is_some said →
    IsNetworkSubmittedIfSaid said old.net new.net → new ≡ record old { net = new.net } → NetworkTakesCall plain old new
network_takes_call plain old new None is some submitted same = absurd (cc)
network_takes_call plain old new (Some call) is some submitted same = record { call = call; said = is; submitted = submitted; same = same }
