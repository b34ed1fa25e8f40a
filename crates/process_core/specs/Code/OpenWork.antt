-- The open work: what each part of it means on the agenda.
use Rattle.std.specs.Prelude.{ℕ, Bool, true, false, List, [], ◌∷◌, ◌++◌, map, flat_map, reverse}
use Rattle.mote_types.specs.declared.event.Event.{Event}
use Rattle.mote_types.specs.declared.event.Stimulus.{Stimulus}
use Rattle.mote_types.specs.declared.event.Origin.{Origin}
use Rattle.mote_types.specs.declared.reply.Reply.{Reply}
use Rattle.mote_types.specs.EventNumbers.{EXITED}
use Rattle.mote_types.specs.Codes.{number_event}
use Rattle.process_core.specs.declared.front.Front.{Front}
use Rattle.process_core.specs.declared.open_work.Base.{Base}
use Rattle.process_core.specs.declared.open_work.Continuation.{Continuation}
use Rattle.process_core.specs.declared.scheduler_fields.SchedulerFields.{SchedulerFields}
use Rattle.process_core.specs.Agenda.{Item}

-- the front, where these are the reply and the event to deliver
abbrev pub front_items : Front → Stimulus → Event → List Item
front_items (Front.Answer p) reply synch = Item.Turn p.0 Origin.Answer reply ∷ []
front_items (Front.Give p) reply synch = Item.Give p.0 Origin.Synch (Stimulus.Event synch) ∷ []
front_items (Front.Start p) reply synch = Item.Start p.0 ∷ []
front_items (Front.Callback p number) reply synch = Item.Give p.0 Origin.Callback (Stimulus.Callback number) ∷ []
front_items _ reply synch = []

abbrev pub exit_items : Bool → ℕ → List Item
exit_items true p = Item.GiveExit p ∷ Item.Remove p ∷ []
exit_items false p = Item.Remove p ∷ []

abbrev pub items_of : Continuation → List Item
items_of (Continuation.Leave pid walk exits) =
    map (λ q. Item.Give q Origin.Synch (Stimulus.Event (number_event EXITED pid.0))) walk ++ exit_items exits pid.0
items_of (Continuation.Answer pid) = Item.Turn pid.0 Origin.Answer (Stimulus.Answer Reply.Done) ∷ []

abbrev pub poll_items : List ℕ → List Item
poll_items polls = map (λ p. Item.PollOne p) polls

-- the receivers of an event, each after a poll round
abbrev pub receiver_items : Stimulus → List ℕ → List Item
receiver_items event walk = flat_map (λ p. Item.Polls ∷ Item.Give p Origin.Event event ∷ []) walk

-- they, where the poll round before the next one was begun
abbrev pub polled_items : Stimulus → List ℕ → List Item
polled_items event [] = []
polled_items event (p ∷ walk) = Item.Give p Origin.Event event ∷ receiver_items event walk

-- what is done where no process is within an activation and no poll round is going on, for this walk and event
abbrev pub base_items : Base → List ℕ → Stimulus → List Item
base_items Base.Nothing walk event = []
base_items Base.Boot walk event = map (λ p. Item.Start p) walk
base_items (Base.Deliver true) walk event = Item.Deliver ∷ []
base_items (Base.Deliver false) walk event = Item.Polls ∷ Item.Deliver ∷ []
base_items (Base.Broadcast true) walk event = polled_items event walk
base_items (Base.Broadcast false) walk event = receiver_items event walk

-- what is on the agenda after the front, with these continuations as the stack, the topmost continuation first
abbrev pub behind_front : SchedulerFields → List Continuation → List Item
behind_front d stack = flat_map items_of stack ++ (poll_items d.polls ++ base_items d.base d.walk d.broadcast)

abbrev pub agenda_of : SchedulerFields → List Item
agenda_of d = front_items d.front d.reply d.synch ++ behind_front d (reverse d.stack.items)
