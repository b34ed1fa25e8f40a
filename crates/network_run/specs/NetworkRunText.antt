-- What a network's run writes.
use Rattle.std.specs.Prelude.{◌≡◌, ◌⊎◌, ℕ, ◌≤◌, ◌^◌, Bool, List, [], ◌++◌, slice_get, Option, None, Some, IfSome, Result, Ok, Err}
use Rattle.kernel_core.specs.declared.config.Config.{Config}
use Rattle.medium_core.specs.declared.link.Link.{Link}
use Rattle.mote_session.specs.SessionView.{SessionView}
use Rattle.mote_session.specs.declared.refusal.SessionRefusal.{SessionRefusal}
use Rattle.mote_text.specs.declared.script.End.{End}
use Rattle.network_session.specs.Network.{NetworkView}
use Rattle.network_session.specs.Promise.{IsLogOf, NetworkPromise}
use Rattle.network_session.specs.Refusals.{step_refusal}
use Rattle.network_session.specs.Schedule.{due_step}
use Rattle.network_session.specs.declared.fault.NetworkFault.{NetworkFault}
use Rattle.network_session.specs.declared.outcome.Outcome.{Outcome}
use Rattle.network_run.specs.declared.fault.NetworkRunFault.{NetworkRunFault}
use Rattle.mote_session.specs.Voices.{Voices}
use Rattle.network_run.specs.Outside.{AreInTurn, Outside, all_outside, givens, next_refusal}
use Rattle.network_run.specs.Voices.{MakeTheCalls}
use Rattle.network_steps.specs.NetworkRuns.{IsResting, Leads, Move, log_of, moves_text}
use Rattle.network_steps.specs.NetworkText.{last_line}
use Rattle.network_steps.specs.declared.input.NetworkInput.{NetworkInput}

-- no mote is at work, something is left to do, and the input has used up its rounds
pub record IsExhausted (net : NetworkView) : Type 0 where
  pub idle : net.active ≡ None
  pub due : due_step net ≡ Outcome.Exhausted

-- nothing is left to do, and no input; the script ends so
pub record IsDone (net : NetworkView) (left : List Outside) (said end : End) : Type 0 where
  pub rests : IsResting net
  pub none_left : left ≡ []
  pub says : said ≡ end

-- A run can end so in this network, where this is left, and the script ends as is said
abbrev pub CanEnd : NetworkView → List Outside → End → End → Type 0
CanEnd net left said End.Halted = IsExhausted net
CanEnd net left said end = IsDone net left said end

-- the network refuses its next step; or it rests, and refuses what comes next from outside
abbrev pub Refuses : NetworkView → List Outside → NetworkFault → Type 0
Refuses net left fault = (step_refusal net ≡ Some fault) ⊎ (IsResting net × (next_refusal left net ≡ Some fault))

-- how a run comes to an end, or to a refusal
abbrev pub CanStop : NetworkView → List Outside → End → Result End NetworkFault → Type 0
CanStop net left said (Ok end) = CanEnd net left said end
CanStop net left said (Err fault) = Refuses net left fault

-- no mote awaits a call
abbrev pub AwaitsNone : NetworkView → Type 0
AwaitsNone net = (m : ℕ) (mote : SessionView) → slice_get net.motes m ≡ Some mote → mote.turn ≡ None

-- no mote was started, none awaits a call, and each has the network's time
pub record IsAtStart (net : NetworkView) : Type 0 where
  pub idle : net.active ≡ None
  pub none_started : net.started ≡ 0
  pub within : net.air.clock ≤ net.target
  pub far : net.target ≤ 2 ^ 62
  pub awaits : AwaitsNone net
  pub on_time : (m : ℕ) (mote : SessionView) → slice_get net.motes m ≡ Some mote → mote.machine.clock ≡ net.air.clock

-- one input more for a mote that was handed 2^40, or time beyond 2^62
abbrev pub IsTooMuch : NetworkFault → Type 0
IsTooMuch fault = (fault ≡ NetworkFault.TooLong) ⊎ (fault ≡ NetworkFault.Refused SessionRefusal.TooManyInputs)

-- the last line, once the run has ended
abbrev pub ending_text : Option (Result End NetworkFault) → List ℕ
ending_text (Some (Ok end)) = last_line end
ending_text _ = []

-- Moves of a network from its start on, with the calls of these applications. What comes in them, and what is left, are the script's
-- inputs, in order; a mote gets the time only before an input. The text of the moves was written but for the rest
pub record NetworkRan (quiet : Bool) (start : NetworkView) (voices : Voices) (script : List NetworkInput × End)
    (written rest : List ℕ) (ending : Option (Result End NetworkFault)) : Type 0 where
  pub moves : List Move
  pub net : NetworkView
  pub leads : Leads start moves net
  pub left : List Outside
  pub inputs : script.0 ≡ givens (all_outside moves ++ left)
  pub in_turn : AreInTurn (all_outside moves ++ left)
  -- the call of each turn was made
  pub answered : AwaitsNone start → AwaitsNone net
  pub calls : MakeTheCalls voices (log_of start moves)
  pub ends : IfSome ending (CanStop net left script.1)
  pub is_text : written ++ rest ≡ moves_text quiet start moves ++ ending_text ending
  -- of a network that has just booted, what happened keeps the promise
  pub promise : (configs : ℕ → Config) (room : ℕ) (links : List (List Link)) → IsLogOf configs room links [] start →
      NetworkPromise configs room links (log_of start moves) net

-- How it ended: all was written, unless writing failed. A network whose motes have just booted refuses only what is too much
abbrev pub HasRun : Bool → NetworkView → Voices → List NetworkInput × End → List ℕ → Result End NetworkRunFault → Type 0
HasRun quiet start voices script written (Ok end) = NetworkRan quiet start voices script written [] (Some (Ok end))
HasRun quiet start voices script written (Err NetworkRunFault.Write) =
    (rest : List ℕ) × (ending : Option (Result End NetworkFault)) × NetworkRan quiet start voices script written rest ending
HasRun quiet start voices script written (Err (NetworkRunFault.Refused fault)) =
    NetworkRan quiet start voices script written [] (Some (Err fault)) × (IsAtStart start → IsTooMuch fault)

-- what was given since then is this
abbrev pub Gives : List ℕ → List ℕ → (List ℕ → Type 0) → Type 0
Gives old new Is = (written : List ℕ) × (new ≡ old ++ written) × Is written
