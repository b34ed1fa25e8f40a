-- The call that a source says, if it says one, is submitted for the mote at work.
use Rattle.std.proofs.Common.{◌≡◌, ℕ, List, set, slice_get, ap, ◌∙◌, Option, None, Some}
use Rattle.mote_types.specs.declared.call.Call.{Call}
use Rattle.mote_session.specs.SessionView.{SessionView}
use Rattle.mote_session.specs.Steps.{IsSubmittedIfSaid}
use Rattle.network_session.specs.Code.Wakes.{IsSteady}
use Rattle.network_session.specs.Code.Working.{SubmittedIfSaidIn}
use Rattle.network_session.proofs.Steady.{set_same, steady_on}

pub submitted_in : (m : ℕ) (said : Option Call) (old new : List SessionView) (before after : SessionView) →
    slice_get old m ≡ Some before → new ≡ set old m after → IsSubmittedIfSaid said before after → SubmittedIfSaidIn m said old new
submitted_in m None old new before after there is same = is ∙ ap (λ (mote : SessionView). set old m mote) same ∙ set_same old m before there
submitted_in m (Some call) old new before after there is h = record {
  before = before;
  after = after;
  mote = there;
  submitted = h.0;
  same = h.1;
  others = is;
}

pub steady_if_said : (m : ℕ) (said : Option Call) (motes new : List SessionView) (wakes : List ℕ) (target : ℕ) →
    SubmittedIfSaidIn m said motes new → IsSteady (Some m) motes wakes target → IsSteady (Some m) new wakes target
steady_if_said m None motes new wakes target same steady = rw same steady
steady_if_said m (Some call) motes new wakes target h steady = steady_on m motes wakes h.after new target h.others steady
