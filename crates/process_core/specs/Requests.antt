-- The calls on the scheduler: when each is refused, and otherwise its effect.
use Rattle.std.specs.Prelude.{◌+◌, List, [], ◌∷◌, ◌++◌, map, Option, Some, None, if◌then◌else◌, nat_lt}
use Rattle.std.specs.Option.{option_or}
use Rattle.mote_types.specs.Kinds.{ProcessNumber, EventCode}
use Rattle.mote_types.specs.Limits.{event_codes}
use Rattle.mote_types.specs.declared.event.Event.{Event}
use Rattle.mote_types.specs.declared.event.Stimulus.{Stimulus}
use Rattle.mote_types.specs.declared.event.Origin.{Origin}
use Rattle.mote_types.specs.declared.reply.Reply.{Reply}
use Rattle.mote_types.specs.declared.refusal.Refusal.{Refusal}
use Rattle.mote_types.specs.EventNumbers.{EXITED}
use Rattle.mote_types.specs.Codes.{number_event, is_reserved}
use Rattle.process_core.specs.declared.state.State.{State}
use Rattle.process_core.specs.Processes.{numbers, without, is_on_list, is_alive, is_ending, is_application}
use Rattle.process_core.specs.Agenda.{Item}
use Rattle.process_core.specs.Scheduler.{Scheduler, state_in, in_front, put_in_state, has_room}

abbrev pub kill_refusal_in : State → Option Refusal
kill_refusal_in State.Absent = Some Refusal.NotRunning
kill_refusal_in State.Leaving = Some Refusal.NotRunning
kill_refusal_in State.Called = Some Refusal.Busy
kill_refusal_in State.Ending = Some Refusal.Busy
kill_refusal_in State.Running = None

module _ {X : Type 0} where
  -- the application gets the reply in its next turn
  abbrev pub answered : ProcessNumber → Reply → Scheduler X → Scheduler X
  answered p reply s = in_front (Item.Turn p Origin.Answer (Stimulus.Answer reply) ∷ []) s

  abbrev pub post_refusal : Scheduler X → Option Refusal
  post_refusal s = if has_room s then None else Some Refusal.Full

  abbrev pub application_refusal : Scheduler X → ProcessNumber → Option Refusal
  application_refusal s q = if is_application s.applications q then None else Some Refusal.BadName

  abbrev pub synch_refusal : Scheduler X → ProcessNumber → EventCode → Option Refusal
  synch_refusal s q code = option_or (application_refusal s q) (if is_reserved code then Some Refusal.Reserved else None)

  abbrev pub poll_refusal : Scheduler X → ProcessNumber → Option Refusal
  poll_refusal s q = option_or (application_refusal s q) (if is_alive (state_in s q) then None else Some Refusal.NotRunning)

  abbrev pub start_refusal : Scheduler X → ProcessNumber → Option Refusal
  start_refusal s q = option_or (application_refusal s q) (if is_on_list (state_in s q) then Some Refusal.Already else None)

  abbrev pub kill_refusal : Scheduler X → ProcessNumber → Option Refusal
  kill_refusal s q = option_or (application_refusal s q) (kill_refusal_in (state_in s q))

  abbrev pub alloc_event_refusal : Scheduler X → Option Refusal
  alloc_event_refusal s = if nat_lt s.next_event event_codes then None else Some Refusal.NoEvent

  abbrev pub number_drawn : Scheduler X → Scheduler X
  number_drawn s = record s { next_event = s.next_event + 1 }

  -- q gets the event of p within p's activation
  abbrev pub given_in_turn : ProcessNumber → ProcessNumber → Event → Scheduler X → Scheduler X
  given_in_turn p q event s = in_front (Item.Give q Origin.Synch (Stimulus.Event event) ∷ []) (answered p Reply.Done s)

  -- q is started, and then p gets its reply
  abbrev pub started_by : ProcessNumber → ProcessNumber → Scheduler X → Scheduler X
  started_by p q s = in_front (Item.Start q ∷ []) (answered p Reply.Done s)

  -- every other process on the list gets the event that p has ended
  abbrev pub farewells : ProcessNumber → Scheduler X → List Item
  farewells p s = map (λ q. Item.Give q Origin.Synch (Stimulus.Event (number_event EXITED p))) (numbers (without p s.processes))

  -- q is killed: the other processes get an event, q gets EXIT and leaves the list; then p gets its reply
  abbrev pub killed_by : ProcessNumber → ProcessNumber → Scheduler X → Scheduler X
  killed_by p q s =
      in_front (farewells q s ++ Item.GiveExit q ∷ Item.Remove q ∷ []) (put_in_state q State.Leaving (answered p Reply.Done s))

  -- p's activation ends by Exit
  abbrev pub ended : ProcessNumber → Scheduler X → Scheduler X
  ended p s =
      if is_ending (state_in s p) then s
      else in_front (farewells p s ++ Item.Remove p ∷ []) (put_in_state p State.Leaving s)

  -- p's activation ends by Wait
  abbrev pub waited : ProcessNumber → Scheduler X → Scheduler X
  waited p s = if is_ending (state_in s p) then s else put_in_state p State.Running s
