-- What the calls say of which a network is asked step by step. A network in hand is closed, or has what is stepped.
use Rattle.std.specs.Prelude.{◌≡◌, ◌+◌, ℕ, Bool, List, [], ◌∷◌, ◌++◌, length, slice_get, Option, Some, None, is_some, is_none, not, option_map, IsSomeAnd, if◌then◌else◌, ◌==◌, nat_lt}
use Rattle.kernel_core.specs.Machine.{is_bootable}
use Rattle.kernel_core.specs.declared.config.Config.{Config}
use Rattle.mote_session.specs.SessionView.{SessionView}
use Rattle.mote_types.specs.declared.call.Call.{Call}
use Rattle.mote_types.specs.declared.entry.Input.{Input}
use Rattle.network_session.specs.Steps.{IsNetworkSubmitted}
use Rattle.network_steps.specs.Lines.{came_line}
use Rattle.network_steps.specs.Refusals.{awaited_turn, feed_refusal, link_refusal, tick_refusal}
use Rattle.network_steps.specs.StepsView.{StepsView, opened_steps}
use Rattle.network_steps.specs.Works.{GoesNext}
use Rattle.network_steps.specs.declared.came.Came.{Came}
use Rattle.network_steps.specs.declared.fault.StepsFault.{StepsFault}
use Rattle.timer_core.specs.Deadlines.{next_deadline}
use Rattle.library_core.specs.Calls.{call_said}
use Rattle.library_core.specs.Networks.{happening_of, link_said, place_of}
use Rattle.library_core.specs.Steps.{IsOpened, TellsTurn, config_in, due_status_of, refusal_status}
use Rattle.library_core.specs.declared.call.PlainCall.{PlainCall}
use Rattle.library_core.specs.declared.held_network.HeldNetwork.{HeldNetwork}
use Rattle.library_core.specs.declared.plain_network.Happening.{Happening}
use Rattle.library_core.specs.declared.plain_network.NetworkMote.{NetworkMote}
use Rattle.library_core.specs.declared.plain_network.NetworkSizes.{NetworkSizes}
use Rattle.library_core.specs.declared.plain_network.PlainLink.{PlainLink}
use Rattle.library_core.specs.declared.turn.PlainTurn.{PlainTurn}

-- what is stepped, if the network is open
abbrev pub steps_in : HeldNetwork → Option StepsView
steps_in network = option_map (λ open_network. open_network.steps) network.open_network

-- statuses

abbrev pub fault_status : StepsFault → ℕ
fault_status (StepsFault.Refused refusal) = refusal_status refusal
fault_status StepsFault.NoRoom = 20
fault_status StepsFault.Memory = 21
fault_status StepsFault.BadLink = 31
fault_status StepsFault.NoMote = 32
fault_status StepsFault.IsStarted = 34

abbrev pub fault_status_if : Option StepsFault → ℕ
fault_status_if None = 0
fault_status_if (Some fault) = fault_status fault

-- 22 where the network is closed
abbrev pub network_status : Option StepsView → (StepsView → ℕ) → ℕ
network_status None status = 22
network_status (Some steps) status = status steps

abbrev pub awaits : StepsView → Bool
awaits steps = is_some (awaited_turn steps.net)

-- 25 where no turn awaits a call, 27 where there is no such call
abbrev pub network_submit_status : PlainCall → StepsView → ℕ
network_submit_status call steps = if is_none (awaited_turn steps.net) then 25 else if is_none (call_said call) then 27 else 0

abbrev pub network_tick_status : ℕ → StepsView → ℕ
network_tick_status ticks steps = fault_status_if (tick_refusal ticks steps)

abbrev pub network_feed_status : ℕ → Input → StepsView → ℕ
network_feed_status number input steps = fault_status_if (feed_refusal (place_of number) input steps)

-- but for memory
abbrev pub network_link_status : PlainLink → StepsView → ℕ
network_link_status plain steps = fault_status_if (link_refusal (place_of plain.from) (link_said plain) steps)

-- 30 where there is no line, 20 where it is longer than the room
abbrev pub text_status : ℕ → List ℕ → ℕ
text_status room text = if length text == 0 then 30 else if nat_lt (room + 1) (length text) then 20 else 0

abbrev pub network_line_status : ℕ → StepsView → ℕ
network_line_status room steps = text_status room (came_line steps.last steps.net)

-- 32 where there is no such mote, 33 where it has no timer
abbrev pub mote_due_status : Option SessionView → ℕ
mote_due_status None = 32
mote_due_status (Some mote) = due_status_of (next_deadline mote.machine.timers)

abbrev pub network_due_status : ℕ → StepsView → ℕ
network_due_status number steps = mote_due_status (slice_get steps.net.motes (place_of number))

-- when the next timer of that mote runs out
abbrev pub due_of : Option SessionView → Option ℕ
due_of None = None
due_of (Some mote) = next_deadline mote.machine.timers

abbrev pub mote_due : ℕ → StepsView → Option ℕ
mote_due number steps = due_of (slice_get steps.net.motes (place_of number))

-- what is done where the status is 0

-- it was open and is, and went from old to new so
abbrev pub NetworkGoes : (StepsView → StepsView → Type 0) → Option StepsView → Option StepsView → Type 0
NetworkGoes R old new = IsSomeAnd old (λ before. IsSomeAnd new (λ after. R before after))

abbrev pub config_of_mote : NetworkMote → Config
config_of_mote mote = config_in mote.configuration mote.applications

-- no mote boots so
abbrev pub is_unbootable : NetworkMote → Bool
is_unbootable mote = not (is_bootable (config_of_mote mote))

-- a mote at boot for each of these
abbrev pub AreOpened : List NetworkMote → List SessionView → Type 0
AreOpened [] [] = Unit {0}
AreOpened (mote ∷ motes) (session ∷ sessions) = IsOpened (config_of_mote mote) session × AreOpened motes sessions
AreOpened [] (session ∷ sessions) = ⊥
AreOpened (mote ∷ motes) [] = ⊥

pub record IsNetworkOpened (sizes : NetworkSizes) (motes : List NetworkMote) (new : StepsView) : Type 0 where
  pub sessions : List SessionView
  pub opened : AreOpened motes sessions
  pub steps : new ≡ opened_steps sessions sizes.room sizes.links sizes.rounds

pub record NetworkGoesNext (happening : Happening) (before after : PlainTurn) (old new : StepsView) : Type 0 where
  pub came : Came
  pub goes : GoesNext came old new
  pub is_happening : happening ≡ happening_of came new.net.air.clock
  pub turn : TellsTurn (awaited_turn new.net) before after

pub record NetworkTakesCall (plain : PlainCall) (old new : StepsView) : Type 0 where
  pub call : Call
  pub said : call_said plain ≡ Some call
  pub submitted : IsNetworkSubmitted call old.net new.net
  pub same : new ≡ record old { net = new.net }

-- these bytes and a line end are the line of what happened last
abbrev pub IsNetworkLine : List ℕ → StepsView → Type 0
IsNetworkLine bytes steps = came_line steps.last steps.net ≡ bytes ++ 10 ∷ []
