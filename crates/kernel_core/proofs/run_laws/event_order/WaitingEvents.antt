-- No event that waits for p is lost: it is on the agenda or in the queue.
use Rattle.kernel_core.proofs.run_laws.Changes.{farewells-same, behind, seats, seats-with_mark, Changes, of_changes, is_posting, kept_unposted}
use Rattle.std.proofs.Common.{◌≡◌, ℕ, Bool, true, false, List, [], ◌∷◌, ◌++◌, refl, append-nil, Option, Some, option_to_list, if◌then◌else◌, ◌==◌, flat_map, map, ap, ◌∙◌, drop, slice_get, nat_le, length, nat_lt}
use Rattle.mote_types.specs.declared.event.Payload.{Payload}
use Rattle.kernel_core.specs.Laws.EventLaws.{posted_event}
use Rattle.kernel_core.proofs.Common.{decide, Call, Stimulus, Event, Origin, Queued, Item, Process, numbers, Scheduler, delivery, after_item, Machine, cancelled_if, serve, after_call}
use Rattle.std.proofs.lemmas.Grind.{flat_map-append}
use Rattle.kernel_core.proofs.run_laws.event_order.Runs.{Known, FrontAgrees}
use Rattle.kernel_core.proofs.run_laws.event_order.AcceptedEvents.{own_event}
use Rattle.kernel_core.proofs.run_laws.event_order.InPlace.{given-running, holds, is_ordered, is_silent, stands}

abbrev posted_for : Event → List Event
posted_for event = option_to_list (posted_event Origin.Event (Stimulus.Event event))

abbrev pub to_all : Event → Option (Queued Bool)
to_all event = Some (Queued.ToAll event)

module _ (p : ℕ) where
  -- the events that wait for p

  abbrev waiting_in : Item → List Event
  waiting_in (Item.Give q origin stimulus) = if q == p then option_to_list (posted_event origin stimulus) else []
  waiting_in (Item.Turn q origin stimulus) = if q == p then option_to_list (posted_event origin stimulus) else []
  waiting_in _ = []

  abbrev pub waits : List Item → List Event
  waits items = flat_map waiting_in items

  abbrev queued_in : Queued Bool → List Event
  queued_in (Queued.To q event) = if q == p then posted_for event else []
  queued_in (Queued.ToAll event) = posted_for event
  queued_in (Queued.Expiry q c cancelled) = []

  abbrev queued : List (Queued Bool) → List Event
  queued events = flat_map queued_in events

  -- each receiver of a broadcast gets it once
  waits-broadcast : (event : Event) (list : List Process)
      → waits (delivery (numbers list) (to_all event)) ≡ flat_map (λ _. posted_for event) (seats p list)
  waits-broadcast event [] = refl
  waits-broadcast event (x ∷ xs) = grind (decide, waits-broadcast event xs)

-- An item that makes no entry loses none.

module _ (p : ℕ) where
  waits-polls : (ns : List ℕ) → waits p (map (λ n. Item.PollOne n) ns) ≡ []
  waits-polls [] = refl
  waits-polls (n ∷ ns) = waits-polls ns

  module _ (s : Scheduler Bool) where
    delivered : (events : List (Queued Bool)) → holds p (seats p s.processes) (Item.Deliver ∷ []) ≡ true
        → waits p (delivery (numbers s.processes) (slice_get events 0)) ++ queued p (drop 1 events) ≡ queued p events
    delivered [] h = refl
    delivered (Queued.To q event ∷ events) h = grind decide
    delivered (Queued.ToAll event ∷ events) h =
        ap (λ l. l ++ queued p events) (waits-broadcast p event s.processes ∙ (grind decide))
    delivered (Queued.Expiry q c x ∷ events) h = refl

    abbrev pub all_waiting : List Event
    all_waiting = waits p s.agenda ++ queued p s.events

  pub carried-waiting : (item : Item) (s : Scheduler Bool) → is_silent item ≡ true → nat_le 4 p ≡ true
      → is_ordered (item ∷ s.agenda) ≡ true → stands p (behind item s) ≡ true
      → all_waiting (after_item item s) ≡ all_waiting (behind item s)
  carried-waiting (Item.Give q origin stimulus) s n a o h = grind (decide, given-running)
  carried-waiting Item.Polls s n a o h = grind (decide, flat_map-append, waits-polls)
  carried-waiting Item.Deliver s n a o h = grind (decide, append-nil, delivered)
  carried-waiting item s n a o h = grind decide

  -- Kernel processes leave all positions and the events for applications unchanged.

  pub record Served (old new : Machine) : Type 0 where
    pub places : seats p new.scheduler.processes ≡ seats p old.scheduler.processes
    pub events : queued p new.scheduler.events ≡ queued p old.scheduler.events

  queued-cancelled : (test : ℕ → ℕ → Bool) (events : List (Queued Bool)) → queued p (map (cancelled_if test) events) ≡ queued p events
  queued-cancelled test [] = refl
  queued-cancelled test (item ∷ events) = grind (decide, queued-cancelled test events)

  -- the kernel's events aren't for applications
  queued-silent : (events : List (Queued Bool)) (event : Queued Bool) → queued_in p event ≡ []
      → queued p (events ++ event ∷ []) ≡ queued p events
  queued-silent = grind (decide, flat_map-append, append-nil)

  pub serve-served : nat_le 4 p ≡ true → (q : ℕ) (event : Event) (m : Machine) → Served m (serve q event m)
  serve-served a q event = of_changes changes
    where
      changes : Changes Served q event
      changes =
          record {
            same = grind decide;
            chained = grind decide;
            expired = grind (decide, queued-silent);
            timers_gone = grind decide;
            callbacks_gone = λ n m. record { places = refl; events = queued-cancelled (λ r c. r == n) m.scheduler.events };
            posted = grind (decide, queued-silent);
            devices = grind decide;
            marked = grind (decide, seats-with_mark);
          }

pub nothing_queued : (events : List (Queued Bool)) → nat_lt 0 (length events) ≡ false → events ≡ []
nothing_queued [] e = refl
nothing_queued (event ∷ events) e = grind decide

module _ (p : ℕ) (q : ℕ) (m : Machine) where
  pub after-waits : (call : Call) → waits p (after_call call q m).scheduler.agenda ≡ waits p m.scheduler.agenda
  after-waits Call.Exit = grind (decide, farewells-same (waits p) q (grind decide))
  after-waits (Call.Kill r) = grind (decide, farewells-same (waits p) r (grind decide))
  after-waits call = grind decide

  after-queued_other : (call : Call) → is_posting call ≡ false
      → queued p (after_call call q m).scheduler.events ≡ queued p m.scheduler.events
  after-queued_other call n =
      kept_unposted {P = λ events. queued p events ≡ queued p m.scheduler.events}
      (λ test events h. rw (queued-cancelled p test events) h) call q m n refl

-- a call that posts, to one process or to all
data Posting : Call → Type 0 where
  one : (r code : ℕ) (payload : Payload) → Posting (Call.Post r code payload)
  every : (code : ℕ) (payload : Payload) → Posting (Call.Broadcast code payload)

posting : (call : Call) → is_posting call ≡ true → Posting call
posting (Call.Post r code payload) e = Posting.one r code payload
posting (Call.Broadcast code payload) e = Posting.every code payload
posting call e = absurd (cc)

module _ (known : Known) where
  -- the event of an accepted post waits at the end
  module _ (p q : ℕ) (m : Machine) where
    abbrev Queues : Call → Type 0
    Queues call = FrontAgrees known (after_call call q m).scheduler.agenda
        → queued p (after_call call q m).scheduler.events ≡ queued p m.scheduler.events ++ own_event known p q call

    posts : (call : Call) → Posting call → Queues call
    posts _ (Posting.one r code payload) k = grind (decide, append-nil, flat_map-append)
    posts _ (Posting.every code payload) k = grind (decide, append-nil, flat_map-append)

    posts_nothing : (call : Call) → is_posting call ≡ false → Queues call
    posts_nothing call n k = rw (after-queued_other p q m call n) (grind (decide, append-nil))

    pub after-queued : (call : Call) → Queues call
    after-queued call = either (is_posting call) refl
      where
        either : (b : Bool) → is_posting call ≡ b → Queues call
        either true e = posts call (posting call e)
        either false e = posts_nothing call e
