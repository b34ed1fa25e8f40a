-- What a network does until something is reported.
use Rattle.std.specs.Prelude.{◌≡◌, ◌⊎◌, ℕ, ◌+◌, Bool, true, false, not, ◌&&◌, List, [], ◌∷◌, ◌++◌, slice_get, Option, None, Some, is_some, if◌then◌else◌, nat_lt, filter_map}
use Rattle.medium_core.specs.Air.{with_link}
use Rattle.medium_core.specs.declared.link.Link.{Link}
use Rattle.mote_session.specs.Sent.{sent_in}
use Rattle.mote_session.specs.SessionView.{SessionView}
use Rattle.mote_session.specs.declared.session.Next.{Next}
use Rattle.mote_types.specs.declared.entry.Input.{Input}
use Rattle.network_session.specs.Network.{NetworkView}
use Rattle.network_session.specs.Refusals.{catch_up_refusal, feed_refusal, step_refusal}
use Rattle.network_session.specs.Schedule.{due_step}
use Rattle.network_session.specs.declared.fault.NetworkFault.{NetworkFault}
use Rattle.network_session.specs.declared.outcome.Outcome.{Outcome}
use Rattle.network_steps.specs.NetworkRuns.{IsResting, Leads, Move, PassesTime, TellsTime, is_halted_in, moves_text}
use Rattle.network_steps.specs.Code.Turns.{ends_open, is_open, times_of}
use Rattle.network_steps.specs.declared.input.NetworkInput.{NetworkInput}
use Rattle.network_steps.specs.Lines.{shown_line, shown_losses}
use Rattle.network_steps.specs.Refusals.{awaited_turn, fault_of}
use Rattle.network_steps.specs.StepsView.{StepsView}
use Rattle.network_steps.specs.declared.came.Came.{Came}
use Rattle.network_steps.specs.declared.came.Phase.{Phase}
use Rattle.network_steps.specs.declared.came.Sending.{Sending}
use Rattle.network_steps.specs.declared.came.Waiting.{Waiting}
use Rattle.network_steps.specs.declared.fault.StepsFault.{StepsFault}

-- of a network that rests
abbrev pub RestsIf : Phase → NetworkView → Type 0
RestsIf Phase.Resting net = IsResting net
RestsIf _ net = Unit {0}

-- what is reported of a step: one that has a line, awaits a call, or is the last one
abbrev pub came_of : Outcome → Option Came
came_of (Outcome.Worked m Next.Turn) = Some (Came.Turn m)
came_of (Outcome.Worked m Next.Entry) = Some (Came.Entry m)
came_of (Outcome.Missed from to) = Some (Came.Missed from to)
came_of Outcome.Clock = Some Came.Clock
came_of Outcome.Rest = Some Came.Rest
came_of Outcome.Exhausted = Some Came.Exhausted
came_of (Outcome.Worked m Next.Rest) = None
came_of (Outcome.Worked m Next.Halted) = None
came_of (Outcome.Started m) = None
came_of (Outcome.Woken m) = None
came_of (Outcome.Heard m) = None

-- what happened last that has a line; rest has none
abbrev pub last_after : Came → Came → Came
last_after Came.Rest before = before
last_after came before = came

-- how far the network is after that
abbrev pub phase_after : Came → Phase
phase_after Came.Rest = Phase.Resting
phase_after Came.Exhausted = Phase.Exhausted
phase_after _ = Phase.Working

-- the frame that mote m has just sent, if it has sent one
abbrev pub sending_by : ℕ → Option SessionView → Option Sending
sending_by m None = None
sending_by m (Some mote) = if is_some (sent_in mote.last) then Some (record { from = m; place = 0 }) else None

-- the frame that was sent in what came
abbrev pub sending_of : Came → NetworkView → Option Sending
sending_of (Came.Entry m) net = sending_by m (slice_get net.motes m)
sending_of _ net = None

-- the lines of what came, which left the network so
abbrev pub came_lines : Bool → Came → NetworkView → List ℕ
came_lines quiet came net = shown_line quiet came net ++ shown_losses quiet (sending_of came net) net

-- so what is reported is noted
abbrev pub noted : Came → StepsView → StepsView
noted came s =
    record s { last = last_after came s.last; sending = sending_of came s.net; phase = phase_after came }

-- the input from outside that a move executes
abbrev pub input_of : Move → Option NetworkInput
input_of (Move.Tick ticks new) = Some (NetworkInput.Tick ticks)
input_of (Move.Hand m input new) = Some (NetworkInput.ForMote (m + 1) input)
input_of (Move.Miss m input new) = Some (NetworkInput.ForMote (m + 1) input)
input_of _ = None

-- the inputs that all of these moves execute
abbrev pub inputs_of : List Move → List NetworkInput
inputs_of moves = filter_map input_of moves

-- the input that waits
abbrev pub inputs_waiting : Option Waiting → List NetworkInput
inputs_waiting None = []
inputs_waiting (Some waiting) = NetworkInput.ForMote (waiting.mote + 1) waiting.input ∷ []

-- so it is where a turn, rest or a halt is reported
abbrev pub IsCame : Came → StepsView → Type 0
IsCame (Came.Turn m) new = (new.net.active ≡ Some m) × (is_some (awaited_turn new.net) ≡ true)
IsCame Came.Rest new = IsResting new.net × (new.waiting ≡ None)
IsCame Came.Exhausted new = (new.net.active ≡ None) × (due_step new.net ≡ Outcome.Exhausted)
IsCame _ new = Unit {0}

-- Some moves lead from old to new. What was still to be reported, and then their lines, are the line of what came and what is still to be
-- reported; the input that waited is handed over, or waits
pub record GoesNext (came : Came) (old new : StepsView) : Type 0 where
  pub moves : List Move
  pub leads : Leads old.net moves new.net
  pub text : (quiet : Bool) →
      shown_losses quiet old.sending old.net ++ moves_text quiet old.net moves ≡ shown_line quiet came new.net ++ shown_losses quiet new.sending new.net
  pub inputs : inputs_of moves ++ inputs_waiting new.waiting ≡ inputs_waiting old.waiting
  pub last : new.last ≡ last_after came old.last
  pub phase : new.phase ≡ phase_after came
  pub is_came : IsCame came new
  pub links : new.free_links ≡ old.free_links
  -- no mote gets the time before an input in them, and only a turn that is reported is left without its call
  pub untold : times_of moves ≡ []
  pub answered : is_open came ≡ false → ends_open moves ≡ false

-- moves without lines lead from old to new; the input that waited comes in them, or is left
pub record MovesSilently (old new : NetworkView) (waiting left : Option Waiting) : Type 0 where
  pub moves : List Move
  pub leads : Leads old moves new
  pub silent : (quiet : Bool) → moves_text quiet old moves ≡ []
  pub inputs : inputs_of moves ++ inputs_waiting left ≡ inputs_waiting waiting
  -- no mote gets the time before an input in them, and no turn is left without its call
  pub untold : times_of moves ≡ []
  pub answered : ends_open moves ≡ false

-- a network that rests refuses the input that is left, whose mote isn't halted
abbrev pub RefusesInput : Option Waiting → NetworkView → NetworkFault → Type 0
RefusesInput None net cause = ⊥
RefusesInput (Some waiting) net cause =
    IsResting net × (is_halted_in (slice_get net.motes waiting.mote) ≡ false) × (feed_refusal waiting.mote waiting.input net ≡ Some cause)

-- silent moves lead from old to a network that refuses its next step, or the input that is left
pub record IsRefused (fault : StepsFault) (old : NetworkView) (waiting : Option Waiting) (new : NetworkView) : Type 0 where
  pub left : Option Waiting
  pub way : MovesSilently old new waiting left
  pub cause : NetworkFault
  pub refuses : (step_refusal new ≡ Some cause) ⊎ RefusesInput left new cause
  pub reported : fault ≡ fault_of cause

-- time may go on
pub record TakesTicks (ticks : ℕ) (old new : StepsView) : Type 0 where
  pub passes : PassesTime ticks old.net new.net
  pub result : new ≡ record old { net = new.net; phase = Phase.Working }

-- a mote that isn't halted, and is behind
abbrev pub is_behind : NetworkView → SessionView → Bool
is_behind net mote = not mote.machine.is_halted && nat_lt mote.machine.clock net.air.clock

-- why it can't get the time, if it is behind and wasn't halted
abbrev pub given_refusal : ℕ → NetworkView → Option NetworkFault
given_refusal m net = if is_halted_in (slice_get net.motes m) then None else catch_up_refusal m net

-- a mote gets the time, if it is behind
pub record ToldIfBehind (m : ℕ) (old new : NetworkView) : Type 0 where
  pub mote : SessionView
  pub there : slice_get old.motes m ≡ Some mote
  pub told : is_behind old mote ≡ true → TellsTime m old new
  pub untold : is_behind old mote ≡ false → new ≡ old

-- an input from outside waits for a mote, which gets the time first
pub record TakesFeed (m : ℕ) (input : Input) (old new : StepsView) : Type 0 where
  pub told : ToldIfBehind m old.net new.net
  pub result : new ≡ record old { net = new.net; waiting = Some (record { mote = m; input = input }); phase = Phase.Working }

-- a link more
pub record TakesLink (from : ℕ) (link : Link) (old new : StepsView) : Type 0 where
  pub one : new.free_links + 1 ≡ old.free_links
  pub result : new ≡ record old { net = record old.net { air = with_link from link old.net.air }; free_links = new.free_links }
