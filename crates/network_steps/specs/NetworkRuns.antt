-- What a network does from one state to another, what happens on the way, and the text of that.
use Rattle.std.specs.Prelude.{◌≡◌, ℕ, ◌+◌, ◌<◌, Bool, true, false, not, List, [], ◌∷◌, ◌++◌, slice_get, Option, None, Some, IsSomeAnd, is_some}
use Rattle.mote_session.specs.SessionView.{SessionView}
use Rattle.mote_types.specs.declared.call.Call.{Call}
use Rattle.mote_types.specs.declared.entry.Input.{Input}
use Rattle.network_session.specs.Happenings.{Happening}
use Rattle.network_session.specs.Logs.{submitted, happened, told_by}
use Rattle.network_session.specs.Network.{NetworkView}
use Rattle.network_session.specs.Schedule.{due_step}
use Rattle.network_session.specs.Steps.{IsNetworkSubmitted, IsNetworkFed, IsToldTime, Steps, is_work}
use Rattle.network_session.specs.declared.outcome.Outcome.{Outcome}
use Rattle.network_steps.specs.NetworkText.{if_shown, log_text, unheard_line}

-- one move of a network, and what it is after it
pub data Move : Type 0 where
  -- it does a step
  Step : (outcome : Outcome) → (after : NetworkView) → Move
  -- an application makes the call that a mote awaits
  Submit : (call : Call) → (after : NetworkView) → Move
  -- an input from outside: time may go on
  Tick : (ticks : ℕ) → (after : NetworkView) → Move
  -- mote m gets the time, before an input from outside
  Tell : (m : ℕ) → (after : NetworkView) → Move
  -- it gets an input from outside
  Hand : (m : ℕ) → (input : Input) → (after : NetworkView) → Move
  -- it was halted before an input from outside
  Miss : (m : ℕ) → (input : Input) → (after : NetworkView) → Move

-- no mote is at work, and nothing is left to do
pub record IsResting (net : NetworkView) : Type 0 where
  pub idle : net.active ≡ None
  pub due : due_step net ≡ Outcome.Rest

-- a step that the network does: that of the mote at work; without one, the next pending step
pub record DoesStep (outcome : Outcome) (old new : NetworkView) : Type 0 where
  pub steps : Steps outcome old new
  pub due : old.active ≡ None → outcome ≡ due_step old
  pub work : is_work outcome ≡ is_some old.active

-- an input comes only at rest
pub record PassesTime (ticks : ℕ) (old new : NetworkView) : Type 0 where
  pub rested : IsResting old
  pub result : new ≡ record old { target = old.target + ticks; rounds = old.bound }

pub record TellsTime (m : ℕ) (old new : NetworkView) : Type 0 where
  pub rested : IsResting old
  -- the mote is behind
  pub behind : IsSomeAnd (slice_get old.motes m) (λ (mote : SessionView). mote.machine.clock < old.air.clock)
  pub told : IsToldTime m old new

pub record HandsInput (m : ℕ) (input : Input) (old new : NetworkView) : Type 0 where
  pub rested : IsResting old
  pub fed : IsNetworkFed m input old new

-- whether there is this mote, and it was halted
abbrev pub is_halted_in : Option SessionView → Bool
is_halted_in None = false
is_halted_in (Some mote) = mote.machine.is_halted

pub record MissesInput (m : ℕ) (old new : NetworkView) : Type 0 where
  pub rested : IsResting old
  pub halted : IsSomeAnd (slice_get old.motes m) (λ (mote : SessionView). mote.machine.is_halted ≡ true)
  pub result : new ≡ old

abbrev pub IsMove : NetworkView → Move → Type 0
IsMove old (Move.Step outcome new) = DoesStep outcome old new
IsMove old (Move.Submit call new) = IsNetworkSubmitted call old new
IsMove old (Move.Tick ticks new) = PassesTime ticks old new
IsMove old (Move.Tell m new) = TellsTime m old new
IsMove old (Move.Hand m input new) = HandsInput m input old new
IsMove old (Move.Miss m input new) = MissesInput m old new

abbrev pub after_move : Move → NetworkView
after_move (Move.Step outcome new) = new
after_move (Move.Submit call new) = new
after_move (Move.Tick ticks new) = new
after_move (Move.Tell m new) = new
after_move (Move.Hand m input new) = new
after_move (Move.Miss m input new) = new

-- these moves lead from old to new
abbrev pub Leads : NetworkView → List Move → NetworkView → Type 0
Leads old [] new = old ≡ new
Leads old (move ∷ moves) new = IsMove old move × Leads (after_move move) moves new

-- what happens in a move
abbrev pub moved : NetworkView → Move → List Happening
moved old (Move.Step outcome new) = happened outcome old new
moved old (Move.Submit call new) = submitted old new
moved old (Move.Tell m new) = told_by old.air.clock m (slice_get old.motes m)
moved old (Move.Hand m input new) = Happening.Fed m input ∷ []
moved old _ = []

-- what happens in all of these moves
abbrev pub log_of : NetworkView → List Move → List Happening
log_of old [] = []
log_of old (move ∷ moves) = moved old move ++ log_of (after_move move) moves

-- the lines of a move: of what happens in it, or that an input is missed
abbrev pub move_lines : Bool → NetworkView → Move → List ℕ
move_lines quiet old (Move.Step outcome new) = log_text quiet old.air (happened outcome old new)
move_lines quiet old (Move.Submit call new) = log_text quiet old.air (submitted old new)
move_lines quiet old (Move.Miss m input new) = if_shown (not quiet) (unheard_line m)
move_lines quiet old _ = []

-- the text of all of them
abbrev pub moves_text : Bool → NetworkView → List Move → List ℕ
moves_text quiet old [] = []
moves_text quiet old (move ∷ moves) = move_lines quiet old move ++ moves_text quiet (after_move move) moves
