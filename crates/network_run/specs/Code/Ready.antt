-- What a network keeps true between the steps of a run.
use Rattle.std.specs.Prelude.{◌≡◌, ◌⊎◌, ⊤, ℕ, ◌+◌, ◌<◌, ◌≤◌, ◌^◌, true, false, length, nat_lt, slice_get, Option, None, Some}
use Rattle.kernel_core.specs.Run.{is_still}
use Rattle.mote_session.specs.SessionView.{SessionView}
use Rattle.network_session.specs.Network.{NetworkView}
use Rattle.mote_session.specs.Refusals.{is_input}
use Rattle.mote_types.specs.declared.entry.Input.{Input}
use Rattle.network_session.specs.Refusals.{is_tick}
use Rattle.network_session.specs.Time.{KeepsTime}
use Rattle.network_steps.specs.NetworkRuns.{IsResting, Move}
use Rattle.network_steps.specs.StepsView.{StepsView}
use Rattle.network_steps.specs.declared.came.Phase.{Phase}
use Rattle.network_steps.specs.declared.came.Waiting.{Waiting}
use Rattle.network_steps.specs.declared.input.NetworkInput.{NetworkInput}
use Rattle.network_run.specs.NetworkRunText.{AwaitsNone, IsTooMuch}
use Rattle.network_run.specs.declared.fault.NetworkRunFault.{NetworkRunFault}

-- only the mote at work may await a call
abbrev pub AwaitsAtWork : NetworkView → Type 0
AwaitsAtWork net = (m : ℕ) (mote : SessionView) → slice_get net.motes m ≡ Some mote → (net.active ≡ Some m → ⊥) → mote.turn ≡ None

-- each mote that was started, but for the one at work, rests or was halted
abbrev pub OthersAreStill : NetworkView → Type 0
OthersAreStill net = (m : ℕ) (mote : SessionView) → slice_get net.motes m ≡ Some mote → m < net.started → (net.active ≡ Some m → ⊥) →
    is_still mote.machine ≡ true

pub record IsReady (net : NetworkView) : Type 0 where
  pub time : KeepsTime net
  pub within : net.air.clock ≤ net.target
  pub still : OthersAreStill net
  pub awaits : AwaitsAtWork net

-- time is up, and mote m has got it
pub record IsCaught (m : ℕ) (net : NetworkView) : Type 0 where
  pub up : net.target ≤ net.air.clock
  pub on_time : (mote : SessionView) → slice_get net.motes m ≡ Some mote → mote.machine.clock ≡ net.air.clock

-- mote m has got the time, unless it was halted
abbrev pub IsOnTime : ℕ → NetworkView → Type 0
IsOnTime m net = (mote : SessionView) → slice_get net.motes m ≡ Some mote → mote.machine.is_halted ≡ false → nat_lt mote.machine.clock net.air.clock ≡ false

-- an input that comes from outside: serial bytes or a frame, of at least one byte
pub record IsFromOutside (input : Input) : Type 0 where
  pub timeless : is_tick input ≡ false
  pub bytes : is_input input ≡ true

-- how far time may go
abbrev pub IsWithin : NetworkView → Type 0
IsWithin net = net.target ≤ 2 ^ 62

-- ticks let it go no further
abbrev pub StaysWithin : NetworkView → Move → Type 0
StaysWithin old (Move.Tick ticks new) = old.target + ticks ≤ 2 ^ 62
StaysWithin old _ = ⊤

-- what a network refuses that is ready, and where no mote awaits a call
abbrev pub IsRefusedOf : NetworkRunFault → NetworkView → Type 0
IsRefusedOf NetworkRunFault.Write net = ⊤
IsRefusedOf (NetworkRunFault.Refused fault) net = IsReady net → AwaitsNone net → IsWithin net → IsTooMuch fault

abbrev pub ComesFromOutside : NetworkInput → Type 0
ComesFromOutside (NetworkInput.Tick ticks) = ⊤
ComesFromOutside (NetworkInput.ForMote number input) = IsFromOutside input

-- an input waits for a mote that has got the time, or got it before the network rested
abbrev pub IsCaughtAtRest : ℕ → NetworkView → Type 0
IsCaughtAtRest m net = IsCaught m net ⊎ (IsResting net × IsOnTime m net)

pub record IsFit (w : Waiting) (net : NetworkView) : Type 0 where
  pub there : w.mote < length net.motes
  pub outside : IsFromOutside w.input
  pub caught : IsCaughtAtRest w.mote net

abbrev pub IsFitIf : Option Waiting → NetworkView → Type 0
IsFitIf None net = ⊤
IsFitIf (Some waiting) net = IsFit waiting net

-- nothing is left to be reported, and work may go on
pub record IsUnderWay (s : StepsView) : Type 0 where
  pub works : s.phase ≡ Phase.Working
  pub reported : s.sending ≡ None
  pub fit : IsReady s.net → IsFitIf s.waiting s.net
