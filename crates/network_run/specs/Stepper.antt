-- What a network that reports what happens (`NetworkSteps`) keeps from its start on, and what it refuses then.
use Rattle.std.specs.Prelude.{◌≡◌, ◌⊎◌, ⊤, None}
use Rattle.mote_session.specs.declared.refusal.SessionRefusal.{SessionRefusal}
use Rattle.network_run.specs.Code.Ready.{IsFitIf, IsReady, IsWithin}
use Rattle.network_steps.specs.NetworkRuns.{IsResting}
use Rattle.network_steps.specs.StepsView.{StepsView}
use Rattle.network_steps.specs.declared.came.Phase.{Phase}
use Rattle.network_steps.specs.declared.fault.StepsFault.{StepsFault}

-- no input waits before the motes are started, nor at rest
abbrev pub NoneWaits : Phase → StepsView → Type 0
NoneWaits Phase.Fresh s = s.waiting ≡ None
NoneWaits Phase.Resting s = IsResting s.net × (s.waiting ≡ None)
NoneWaits _ s = ⊤

-- the motes keep time, which goes no further than 2^62, and an input that waits is for a mote that has got the time
pub record IsReadyStepper (s : StepsView) : Type 0 where
  pub ready : IsReady s.net
  pub within : IsWithin s.net
  pub fit : IsFitIf s.waiting s.net
  pub waits : NoneWaits s.phase s

-- a turn awaits its call; or one input more for a mote that was handed 2^40, or time beyond 2^62
abbrev pub AwaitsOrIsFull : StepsFault → Type 0
AwaitsOrIsFull fault = (fault ≡ StepsFault.Refused SessionRefusal.AwaitsCall) ⊎ (fault ≡ StepsFault.Refused SessionRefusal.TooManyInputs)
