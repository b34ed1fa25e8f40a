-- What a transcript shows of one process, without the machine.
use Rattle.std.specs.Prelude.{◌≡◌, ◌+◌, Bool, true, false, List, [], ◌∷◌, ◌++◌, Option, Some, None, slice_get, if◌then◌else◌, ◌==◌}
use Rattle.std.specs.List.{cons_option}
use Rattle.std.specs.Option.{option_and_then}
use Rattle.mote_types.specs.Kinds.{ProcessNumber, Ticks}
use Rattle.mote_types.specs.declared.call.Call.{Call}
use Rattle.mote_types.specs.declared.reply.Reply.{Reply}
use Rattle.mote_types.specs.declared.event.Stimulus.{Stimulus}
use Rattle.mote_types.specs.declared.event.Origin.{Origin}
use Rattle.mote_types.specs.declared.entry.Input.{Input}
use Rattle.mote_types.specs.declared.entry.Entry.{Entry}
use Rattle.kernel_core.specs.Run.{heard}

abbrev pub reply_of : Stimulus → Option Reply
reply_of (Stimulus.Answer reply) = Some reply
reply_of _ = None

-- the reply to p's last call before these entries: the one in its next turn
abbrev pub reply_in : ProcessNumber → List Entry → Option Reply
reply_in p later = option_and_then reply_of (slice_get (heard p later) 0)

abbrev pub ticks_in : Entry → Ticks
ticks_in (Entry.Input (Input.Tick n)) = n
ticks_in _ = 0

-- a turn of p
pub record OwnTurn : Type 0 where
  -- the ticks before it
  pub clock : Ticks
  pub origin : Origin
  pub stimulus : Stimulus
  pub call : Call
  -- none where the activation ended, or where the entries end first
  pub reply : Option Reply

-- the turn of p that this entry is, if it is one, with the reply in the later entries
abbrev pub own_turn : ProcessNumber → Ticks → Entry → List Entry → Option OwnTurn
own_turn p clock (Entry.Turn pid origin stimulus call) later =
    if pid.0 == p
    then Some (record { clock = clock; origin = origin; stimulus = stimulus; call = call; reply = reply_in p later })
    else None
own_turn p clock _ later = None

-- the turns of p among these entries, the clock being this at the first
abbrev pub own_from : ProcessNumber → Ticks → List Entry → List OwnTurn
own_from p clock [] = []
own_from p clock (entry ∷ later) = cons_option (own_turn p clock entry later) (own_from p (clock + ticks_in entry) later)

abbrev pub own : ProcessNumber → List Entry → List OwnTurn
own p entries = own_from p 0 entries

abbrev pub is_done : Option Reply → Bool
is_done (Some Reply.Done) = true
is_done _ = false

abbrev pub is_turn_entry : Entry → Bool
is_turn_entry (Entry.Turn pid origin stimulus call) = true
is_turn_entry _ = false

-- what p received, from where, and its call
pub record Turn : Type 0 where
  pub p : ProcessNumber
  pub origin : Origin
  pub stimulus : Stimulus
  pub call : Call

-- these entries, and the turn after them
abbrev pub up_to_call : List Entry → Turn → List Entry
up_to_call before turn = before ++ Entry.Turn (record { 0 = turn.p }) turn.origin turn.stimulus turn.call ∷ []

-- the transcript X has this turn after these entries, and the reply to its call
pub record HasCall (X before : List Entry) (turn : Turn) (reply : Reply) : Type 0 where
  pub later : List Entry
  pub is_split : up_to_call before turn ++ later ≡ X
  pub is_answered : reply_in turn.p later ≡ Some reply
