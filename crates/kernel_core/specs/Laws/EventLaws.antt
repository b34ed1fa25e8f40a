-- What a transcript shows of the events that were posted for a process.
use Rattle.std.specs.Prelude.{◌≡◌, Bool, true, false, ◌||◌, List, [], ◌∷◌, ◌++◌, filter_map, Option, Some, None, if◌then◌else◌, ◌==◌}
use Rattle.std.specs.List.{list_any, cons_option}
use Rattle.mote_types.specs.Kinds.{ProcessNumber, EventCode}
use Rattle.mote_types.specs.declared.event.Stimulus.{Stimulus}
use Rattle.mote_types.specs.declared.event.Origin.{Origin}
use Rattle.mote_types.specs.declared.event.Event.{Event}
use Rattle.mote_types.specs.EventNumbers.{EXIT, TIMER, SERIAL_LINE, PACKET}
use Rattle.mote_types.specs.declared.entry.Input.{Input}
use Rattle.mote_types.specs.declared.entry.Entry.{Entry}
use Rattle.mote_types.specs.Entries.{is_halt}
use Rattle.kernel_core.specs.Laws.Deeds.{Deed, deed}
use Rattle.kernel_core.specs.Laws.OwnTurns.{own, reply_in, is_done}

abbrev pub is_event_of_code : EventCode → Stimulus → Bool
is_event_of_code code (Stimulus.Event event) = event.code == code
is_event_of_code code _ = false

abbrev pub is_exit : Deed → Bool
is_exit Deed.Exits = true
is_exit _ = false

-- whether p exited or was killed
abbrev pub has_ended : ProcessNumber → List Entry → Bool
has_ended p entries = list_any (λ turn. is_exit (deed turn.call) || is_event_of_code EXIT turn.stimulus) (own p entries)

-- These entries of the transcript X end where the mote rests: before an input, or at the end of X, where that has no Halt
pub data IsAtRest (X : List Entry) : List Entry → Type 0 where
  before_input : (before later : List Entry) (input : Input) → before ++ Entry.Input input ∷ later ≡ X → IsAtRest X before
  at_end : list_any is_halt X ≡ false → IsAtRest X X

-- an event from the queue that an application posted, not one that the kernel makes
abbrev pub posted_event : Origin → Stimulus → Option Event
posted_event Origin.Event (Stimulus.Event event) =
    if event.code == TIMER || event.code == SERIAL_LINE || event.code == PACKET then None else Some event
posted_event _ _ = None

-- those that p received, in order
abbrev pub given_events : List Entry → ProcessNumber → List Event
given_events entries p = filter_map (λ turn. posted_event turn.origin turn.stimulus) (own p entries)

-- the event for p that a call posts: to p, or to all
abbrev pub event_for : ProcessNumber → Deed → Option Event
event_for p (Deed.Posts q event) = if q == p then Some event else None
event_for p (Deed.PostsToAll event) = Some event
event_for p _ = None

-- the event for p that this entry posts, if its call is accepted
abbrev pub accepted_event : ProcessNumber → Entry → List Entry → Option Event
accepted_event p (Entry.Turn pid origin stimulus call) later = if is_done (reply_in pid.0 later) then event_for p (deed call) else None
accepted_event p _ later = None

-- the events that were accepted for p, from whomever
abbrev pub accepted_events : ProcessNumber → List Entry → List Event
accepted_events p [] = []
accepted_events p (entry ∷ later) = cons_option (accepted_event p entry later) (accepted_events p later)
