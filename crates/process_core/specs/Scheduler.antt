-- The scheduler: how the agenda is executed, item by item.
use Rattle.std.specs.Prelude.{ℕ, Bool, true, false, not, ◌&&◌, ◌||◌, List, [], ◌∷◌, ◌++◌, map, drop, length, Option, Some, None, if◌then◌else◌, nat_lt, flat_map, slice_get}
use Rattle.std.specs.List.{range_with_len}
use Rattle.mote_types.specs.Kinds.{ProcessNumber, EventCode}
use Rattle.mote_types.specs.Limits.{first_application, queue_places}
use Rattle.mote_types.specs.declared.event.Stimulus.{Stimulus}
use Rattle.mote_types.specs.declared.event.Origin.{Origin}
use Rattle.mote_types.specs.EventNumbers.{INIT, POLL, EXIT, FIRST_FREE}
use Rattle.mote_types.specs.Codes.{plain_event}
use Rattle.process_core.specs.declared.state.State.{State}
use Rattle.process_core.specs.declared.process.Process.{Process}
use Rattle.process_core.specs.Processes.{numbers, state_of, is_marked, is_any_marked, with_state, with_mark, without, is_on_list, is_running, is_kernel_process, at_first}
use Rattle.process_core.specs.Agenda.{Queued, Item, Job}

-- what must be done, and by which process. X is the type of what an expiry of a callback timer carries
pub record Scheduler (X : Type 0) : Type 0 where
  pub applications : ℕ
  pub processes : List Process
  pub events : List (Queued X)
  -- the front first
  pub agenda : List Item
  -- the number that AllocEvent returns next
  pub next_event : EventCode

module _ {X : Type 0} where
  abbrev pub state_in : Scheduler X → ProcessNumber → State
  state_in s p = state_of p s.processes

  abbrev pub in_front : List Item → Scheduler X → Scheduler X
  in_front items s = record s { agenda = items ++ s.agenda }

  abbrev pub put_in_state : ProcessNumber → State → Scheduler X → Scheduler X
  put_in_state p state s = record s { processes = with_state p state s.processes }

  abbrev pub marked : ProcessNumber → Scheduler X → Scheduler X
  marked p s = record s { processes = with_mark p true s.processes }

  abbrev pub has_room : Scheduler X → Bool
  has_room s = nat_lt (length s.events) queue_places

  abbrev pub posted : Queued X → Scheduler X → Scheduler X
  posted event s = record s { events = s.events ++ event ∷ [] }

  -- the items that deliver an event. The layer above decides whether an expiry counts
  abbrev pub delivery : List ProcessNumber → Option (Queued X) → List Item
  delivery list (Some (Queued.To p event)) = Item.Give p Origin.Event (Stimulus.Event event) ∷ []
  delivery list (Some (Queued.ToAll event)) = flat_map (λ p. Item.Polls ∷ Item.Give p Origin.Event (Stimulus.Event event) ∷ []) list
  delivery list _ = []

  -- the item is executed; s is the scheduler without it
  abbrev pub after_item : Item → Scheduler X → Scheduler X
  after_item (Item.Start p) s =
      if is_on_list (state_in s p) then s
      else in_front (Item.Give p Origin.Synch (Stimulus.Event (plain_event INIT)) ∷ [])
      (record s { processes = record { number = p; state = State.Running; marked = false } ∷ s.processes })
  after_item (Item.Give p origin stimulus) s =
      if not (is_kernel_process p) && is_running (state_in s p)
      then in_front (Item.Turn p origin stimulus ∷ []) (put_in_state p State.Called s)
      else s
  after_item (Item.GiveExit p) s =
      in_front (Item.Turn p Origin.Synch (Stimulus.Event (plain_event EXIT)) ∷ []) (put_in_state p State.Ending s)
  after_item (Item.Remove p) s = record s { processes = without p s.processes }
  after_item Item.Polls s = if is_any_marked s.processes then in_front (map (λ p. Item.PollOne p) (numbers s.processes)) s else s
  after_item (Item.PollOne p) s =
      if is_marked p s.processes
      then in_front (Item.Give p Origin.Poll (Stimulus.Event (plain_event POLL)) ∷ [])
      (record s { processes = with_mark p false s.processes })
      else s
  after_item Item.Deliver s = in_front (delivery (numbers s.processes) (slice_get s.events 0)) (record s { events = drop 1 s.events })
  -- these two are jobs for the layers above
  after_item (Item.Turn p origin stimulus) s = s
  after_item (Item.Show entry) s = s

  abbrev pub wants_round : Scheduler X → Bool
  wants_round s = is_any_marked s.processes || nat_lt 0 (length s.events)

  -- the scheduler after the first item of this agenda. With an empty agenda a round begins, if it has any work
  abbrev pub after_front_of : List Item → Scheduler X → Scheduler X
  after_front_of [] s = if wants_round s then in_front (Item.Polls ∷ Item.Deliver ∷ []) s else s
  after_front_of (item ∷ items) s = after_item item (record s { agenda = items })

  abbrev pub after_front : Scheduler X → Scheduler X
  after_front s = after_front_of s.agenda s

  -- the delivery of an expiry is left to the layers above
  abbrev pub job_of_event : Option (Queued X) → Option (Job X)
  job_of_event (Some (Queued.Expiry p c x)) = Some (Job.CallBack p c x)
  job_of_event _ = None

  -- what an item asks of the layers above
  abbrev pub job_of_item : Item → Scheduler X → Option (Job X)
  job_of_item (Item.Turn p origin stimulus) s = Some (Job.TakeTurn p origin stimulus)
  -- a kernel process ignores every stimulus but an event
  job_of_item (Item.Give p origin (Stimulus.Event event)) s = if is_kernel_process p then Some (Job.Serve p event) else None
  job_of_item Item.Deliver s = job_of_event (slice_get s.events 0)
  job_of_item (Item.Show entry) s = Some (Job.ShowEntry entry)
  job_of_item _ s = None

  -- the job of the agenda's first item; with an empty agenda, a round or rest
  abbrev pub job_at : List Item → Scheduler X → Option (Job X)
  job_at [] s = Some (if wants_round s then Job.Round else Job.Rest)
  job_at (item ∷ items) s = job_of_item item s

  abbrev pub job : Scheduler X → Option (Job X)
  job s = job_at s.agenda s

-- the process list before the applications start, and on the agenda the start of each application
abbrev pub at_boot : {X : Type 0} → ℕ → Scheduler X
at_boot applications =
    record {
      applications = applications;
      processes = at_first;
      events = [];
      agenda = map (λ p. Item.Start p) (range_with_len first_application applications);
      next_event = FIRST_FREE;
    }
