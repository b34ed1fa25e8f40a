-- What calls, items, inputs and kernel processes change.
use Rattle.std.proofs.Common.{ℕ, Bool, [], ◌∷◌, length, ◌≡◌, arith, if◌then◌else◌, map, Option, Some, false, List, refl, None, ◌==◌, filter_map, true, zero, suc, ◌&&◌, ◌||◌, not, ◌++◌, nat_le, append_assoc, ◌∙◌}
use Rattle.kernel_core.specs.TimerProcesses.{etimer, forget_callback_timers, forget_event_timers}
use Rattle.mote_types.specs.EventNumbers.{CONTINUE, PACKET, SERIAL_LINE}
use Rattle.kernel_core.proofs.Common.{decide, Entry, Input, Note, Refusal, Item, Scheduler, marked, in_front, Machine, effect, length-map, Call, Event, state_of, after_call, serve, without, State, Process, with_state, with_mark, is_process, POLL, EXITED, TIMER, Queued, Timer, first_due, PacketQueue, with_event, free_places, mark, times, post_expiry, post_first_due, post_due, exited_application, is_reserved, with_timers, answer_done, expiries_cancelled, cancelled_if, is_callback_timer, callback_refusal, refused_or, list_all, list_any, Stimulus, Origin, delivery, after_item, list_any-append, list_all-append, farewells, number_event, numbers, Reply}
use Rattle.device_core.specs.SerialLine.{SerialLine}
use Rattle.kernel_core.specs.Laws.EventLaws.{is_event_of_code}
use Rattle.kernel_core.specs.PacketProcess.{announce_next, packet}
use Rattle.kernel_core.specs.SerialProcess.{empty_ring, serial_line_polled, serial_line}
use Rattle.timer_core.specs.Names.{callback_timer}
use Rattle.timer_core.specs.Timers.{set_timer, stop_timer}

-- A kernel process reacts to an event by a chain of changes: what each one preserves, the chain preserves.

-- what kernel processes post, except for expiries
abbrev is_notice : Queued Bool → Bool
is_notice (Queued.To q event) = (q == 2 && event.code == CONTINUE) || event.code == PACKET
is_notice (Queued.ToAll event) = event.code == SERIAL_LINE
is_notice (Queued.Expiry q c x) = false

abbrev with_devices : SerialLine → Bool → PacketQueue → Machine → Machine
with_devices serial is_waiting packets m = record m { serial = serial; is_serial_waiting = is_waiting; packets = packets }

-- R holds of each change that q may make on the event, and of chains
pub record Changes (R : Machine → Machine → Type 0) (q : ℕ) (event : Event) : Type 0 where
  pub same : (m : Machine) → R m m
  pub chained : (a b c : Machine) → R a b → R b c → R a c
  pub expired : (timer : Timer) (m : Machine) → first_due m.clock m.timers ≡ Some timer → R m (post_expiry (Some timer) m)
  pub timers_gone : (n : ℕ) (m : Machine) → (q == 0) ≡ true → (event.code == EXITED) ≡ true → exited_application event.payload ≡ Some n
      → R m (forget_event_timers (Some n) m)
  pub callbacks_gone : (n : ℕ) (m : Machine) → R m (forget_callback_timers (Some n) m)
  pub posted : (notice : Queued Bool) (m : Machine) → is_notice notice ≡ true → R m (with_event notice m)
  pub devices : (serial : SerialLine) (is_waiting : Bool) (packets : PacketQueue) (m : Machine) → packets.frames ≡ m.packets.frames
      → R m (with_devices serial is_waiting packets m)
  pub marked : (n : ℕ) (m : Machine) → R m (mark n m)

pub times-keeps : (P : Machine → Type 0) (change : Machine → Machine) → ((m : Machine) → P m → P (change m)) → (n : ℕ) (m : Machine) → P m
    → P (times n change m)
unfolding times
times-keeps P change keeps zero m h = h
times-keeps P change keeps (suc n) m h = times-keeps P change keeps n (change m) (keeps m h)

module _ (R : Machine → Machine → Type 0) (q : ℕ) (event : Event) (changes : Changes R q event) where
  either : (old : Machine) (test : Bool) (x y : Machine) → R old x → R old y → R old (if test then x else y)
  either = grind decide

  repeated : (change : Machine → Machine) → ((m : Machine) → R m (change m)) → (n : ℕ) (m : Machine) → R m (times n change m)
  repeated change keeps n m = times-keeps (R m) change (λ x h. changes.chained m x (change x) h (keeps x)) n m (changes.same m)

  -- the devices change, and a notice is posted
  noticed : (notice : Queued Bool) (serial : SerialLine) (is_waiting : Bool) (packets : PacketQueue) (m : Machine) → is_notice notice ≡ true
      → packets.frames ≡ m.packets.frames → R m (with_event notice (with_devices serial is_waiting packets m))
  noticed notice serial is_waiting packets m n e =
      let a = with_devices serial is_waiting packets m in
      changes.chained m a (with_event notice a) (changes.devices serial is_waiting packets m e) (changes.posted notice a n)

  next-changes : (m : Machine) → R m (announce_next m)
  next-changes = grind (decide, noticed)

  etimer-changes : (m : Machine) → (q == 0) ≡ true → R m (etimer event m)
  etimer-changes m z =
      either m (event.code == POLL) (post_due m) _
      (grind (decide, (repeated post_first_due (grind decide) (free_places m) m))) (told (event.code == EXITED) refl)
    where
      gone : (o : Option ℕ) → exited_application event.payload ≡ o → (event.code == EXITED) ≡ true → R m (forget_event_timers o m)
      gone None e k = changes.same m
      gone (Some n) e k = changes.timers_gone n m z k e

      told : (b : Bool) → (event.code == EXITED) ≡ b → R m (if b then forget_event_timers (exited_application event.payload) m else m)
      told = grind decide

  serial_line-changes : (m : Machine) → R m (serial_line event m)
  serial_line-changes m =
      let a = record m { is_serial_waiting = false } in
      either m (event.code == POLL) (serial_line_polled m) _ (either m m.is_serial_waiting m (empty_ring m) (changes.same m) (emptied m))
      (either m (event.code == CONTINUE) (empty_ring a) m
      (changes.chained m a (empty_ring a) (changes.devices m.serial false m.packets m refl) (emptied a)) (changes.same m))
    where
      emptied : (x : Machine) → R x (empty_ring x)
      emptied x = grind (decide, repeated, either, noticed)

  packet-changes : (m : Machine) → R m (packet event m)
  packet-changes = grind (decide, either, repeated, next-changes)

pub of_changes : {R : Machine → Machine → Type 0} {q : ℕ} {event : Event} → Changes R q event → (m : Machine) → R m (serve q event m)
of_changes {R = R} {q = q} {event = event} = grind (decide, etimer-changes, serial_line-changes, packet-changes)

-- An input marks a process, or puts the note of a lost frame at the front.

abbrev pub is_turn : Entry → Bool
is_turn (Entry.Turn pid origin stimulus call) = true
is_turn _ = false

abbrev pub is_note : Entry → Bool
is_note (Entry.Note note) = true
is_note _ = false

-- with this item at the front
abbrev pub behind : Item → Scheduler Bool → Scheduler Bool
behind item s = record s { agenda = item ∷ s.agenda }

-- the positions of a process on the list

abbrev first_state : List State → State
first_state [] = State.Absent
first_state (state ∷ _) = state

abbrev put : State → List State → List State
put state l = map (λ _. state) l

module _ (p : ℕ) where
  abbrev seat : Process → Option State
  seat process = if is_process p process then Some process.state else None

  abbrev pub seats : List Process → List State
  seats list = filter_map seat list

  pub state_of-seats : (list : List Process) → state_of p list ≡ first_state (seats list)
  state_of-seats [] = refl
  state_of-seats (x ∷ xs) = grind (arith, state_of-seats xs)

  module _ (q : ℕ) where
    pub seats-with_state : (state : State) (list : List Process)
        → seats (with_state q state list) ≡ (if p == q then put state (seats list) else seats list)
    seats-with_state state [] = grind arith
    seats-with_state state (x ∷ xs) = grind (decide, seats-with_state state xs)

    pub seats-with_mark : (mark : Bool) (list : List Process) → seats (with_mark q mark list) ≡ seats list
    seats-with_mark mark [] = refl
    seats-with_mark mark (x ∷ xs) = grind (decide, seats-with_mark mark xs)

    pub seats-without : (list : List Process) → seats (without q list) ≡ (if p == q then [] else seats list)
    seats-without [] = grind arith
    seats-without (x ∷ xs) = grind (decide, seats-without xs)

-- what both preserve
pub effect-keeps : (P : Scheduler Bool → Type 0) (input : Input) (m : Machine) → P m.scheduler → ((q : ℕ) → P (marked q m.scheduler))
    → ((refusal : Refusal) → P (in_front (Item.Show (Entry.Note (Note.Lost refusal)) ∷ []) m.scheduler)) → P (effect input m).scheduler
effect-keeps = grind decide

-- What a call or a kernel process leaves unchanged.

-- a kernel process leaves the agenda, the processes on the list and the work count unchanged
pub record Untouched (old new : Machine) : Type 0 where
  pub agenda : new.scheduler.agenda ≡ old.scheduler.agenda
  pub processes : length new.scheduler.processes ≡ length old.scheduler.processes
  pub applications : new.scheduler.applications ≡ old.scheduler.applications
  pub states : (p : ℕ) → state_of p new.scheduler.processes ≡ state_of p old.scheduler.processes
  pub memory : new.memory ≡ old.memory
  pub frames : new.packets.frames ≡ old.packets.frames
  pub work : new.work ≡ old.work
  pub halted : new.is_halted ≡ old.is_halted

pub serve-untouched : (q : ℕ) (event : Event) (m : Machine) → Untouched m (serve q event m)
serve-untouched q event = of_changes changes
  where
    changes : Changes Untouched q event
    changes = grind (decide, length-map, state_of-seats, seats-with_mark)

pub call-work : (call : Call) (p : ℕ) (m : Machine) → (after_call call p m).work ≡ m.work
call-work call p m = grind arith

-- A call leaves the event queue unchanged, adds an application's event at its end, or cancels expiries in it.

-- what an application may post
abbrev is_posted : Queued Bool → Bool
is_posted (Queued.To q event) = not (is_reserved event.code)
is_posted (Queued.ToAll event) = not (is_reserved event.code)
is_posted (Queued.Expiry q c x) = false

-- posting such an event and cancelling expiries preserve P of the queue
pub record KeptByCalls (P : List (Queued Bool) → Type 0) : Type 0 where
  pub posted : (event : Queued Bool) (events : List (Queued Bool)) → is_posted event ≡ true → P events → P (events ++ event ∷ [])
  pub cancelled : (test : ℕ → ℕ → Bool) (events : List (Queued Bool)) → P events → P (map (cancelled_if test) events)

abbrev pub is_posting : Call → Bool
is_posting (Call.Post r code payload) = true
is_posting (Call.Broadcast code payload) = true
is_posting _ = false

module _ (P : List (Queued Bool) → Type 0) (q : ℕ) (m : Machine) (h : P m.scheduler.events) where
  accepted : (o : Option Refusal) (after : Machine) → (o ≡ None → P after.scheduler.events) → P (refused_or o q m after).scheduler.events
  accepted = grind decide

  unposted-queue : ((test : ℕ → ℕ → Bool) (events : List (Queued Bool)) → P events → P (map (cancelled_if test) events))
      → (call : Call) → is_posting call ≡ false → P (after_call call q m).scheduler.events
  unposted-queue cancelled (Call.CallbackSet c interval) n =
      accepted (callback_refusal c)
      (answer_done q (mark 0 (expiries_cancelled (is_callback_timer q c)
      (with_timers (set_timer m.clock (callback_timer q c) interval m.timers) m))))
      (λ none. cancelled (is_callback_timer q c) m.scheduler.events h)
  unposted-queue cancelled (Call.CallbackStop c) n =
      accepted (callback_refusal c)
      (answer_done q (expiries_cancelled (is_callback_timer q c) (with_timers (stop_timer (callback_timer q c) m.timers) m)))
      (λ none. cancelled (is_callback_timer q c) m.scheduler.events h)
  unposted-queue cancelled call n = grind decide

  kept-queue : KeptByCalls P → (call : Call) → P (after_call call q m).scheduler.events
  kept-queue kept (Call.Post r code payload) = grind decide
  kept-queue kept (Call.Broadcast code payload) = grind decide
  kept-queue kept call = unposted-queue kept.cancelled call (grind arith)

pub kept_by_call : {P : List (Queued Bool) → Type 0} → KeptByCalls P → (call : Call) (q : ℕ) (m : Machine) → P m.scheduler.events
    → P (after_call call q m).scheduler.events
kept_by_call = grind (decide, kept-queue)

-- if the call posts nothing
pub kept_unposted : {P : List (Queued Bool) → Type 0}
    → ((test : ℕ → ℕ → Bool) (events : List (Queued Bool)) → P events → P (map (cancelled_if test) events))
    → (call : Call) (q : ℕ) (m : Machine) → is_posting call ≡ false → P m.scheduler.events → P (after_call call q m).scheduler.events
kept_unposted {P = P} cancelled call q m n h = unposted-queue P q m h cancelled call n

-- A call or an item keeps the agenda, and puts before it only items that pass a test.

pub all-append : {A : Type 0} (test : A → Bool) (xs ys : List A) → list_all test xs ≡ true → list_all test ys ≡ true
    → list_all test (xs ++ ys) ≡ true
all-append = grind (decide, list_all-append)

module _ (test : Item → Bool) where
  module _ (f : ℕ → Item) where
    pub all-mapped : (ns : List ℕ) → ((n : ℕ) → test (f n) ≡ true) → list_all test (map f ns) ≡ true
    all-mapped [] h = refl
    all-mapped (n ∷ ns) h = rw (h n) (all-mapped ns h)

    pub none-mapped : (ns : List ℕ) → ((n : ℕ) → test (f n) ≡ false) → list_any test (map f ns) ≡ false
    none-mapped [] h = refl
    none-mapped (n ∷ ns) h = rw (h n) (none-mapped ns h)

  pub all-delivered : (ns : List ℕ) (event : Option (Queued Bool)) → test Item.Polls ≡ true
      → ((n : ℕ) (event : Event) → test (Item.Give n Origin.Event (Stimulus.Event event)) ≡ true) → list_all test (delivery ns event) ≡ true
  all-delivered ns (Some (Queued.To q event)) p g = grind decide
  all-delivered (n ∷ ns) (Some (Queued.ToAll event)) p g = grind (decide, all-delivered ns (Some (Queued.ToAll event)) p g)
  all-delivered ns _ p g = refl

module _ (keep : Queued Bool → Bool) where
  pub all-more : (xs : List (Queued Bool)) (event : Queued Bool) → keep event ≡ true → list_all keep xs ≡ true
      → list_all keep (xs ++ event ∷ []) ≡ true
  all-more = grind (decide, all-append)

  pub all-cancelled : (test : ℕ → ℕ → Bool) → ((event : Queued Bool) → keep (cancelled_if test event) ≡ keep event)
      → (events : List (Queued Bool)) → list_all keep (map (cancelled_if test) events) ≡ list_all keep events
  all-cancelled test same [] = refl
  all-cancelled test same (event ∷ events) = grind (decide, all-cancelled test same events)

module _ (test : Item → Bool) where
  pub carried-any : (item : Item) (s : Scheduler Bool) → list_any test s.agenda ≡ true
      → list_any test (after_item item s).agenda ≡ true
  carried-any = grind (decide, list_any-append)

  pub after-any : (call : Call) (q : ℕ) (m : Machine) → list_any test m.scheduler.agenda ≡ true
      → list_any test (after_call call q m).scheduler.agenda ≡ true
  after-any Call.Exit q m h = grind (decide, list_any-append)
  after-any (Call.Kill r) q m h = grind (decide, list_any-append)
  after-any call q m h = grind decide

abbrev pub is_from_queue : Origin → Bool
is_from_queue Origin.Event = true
is_from_queue _ = false

-- Kernel processes take no turn and never leave, only notes are shown, and TIMER events come only from the queue.

abbrev pub is_regular : Item → Bool
is_regular (Item.Turn q origin stimulus) = nat_le 4 q
is_regular (Item.Give q origin stimulus) = is_from_queue origin || not (is_event_of_code TIMER stimulus)
is_regular (Item.GiveExit q) = nat_le 4 q
is_regular (Item.Remove q) = nat_le 4 q
is_regular (Item.Show entry) = is_note entry
is_regular _ = true

pub carried-regular : (item : Item) (s : Scheduler Bool) → list_all is_regular (item ∷ s.agenda) ≡ true
    → list_all is_regular (after_item item s).agenda ≡ true
carried-regular = grind (decide, all-mapped, all-append, all-delivered)

-- the EXITED events to the others don't change f
module _ {A : Type 0} (f : List Item → A) (q : ℕ) (same : (n : ℕ) (items : List Item)
    → f (Item.Give n Origin.Synch (Stimulus.Event (number_event EXITED q)) ∷ items) ≡ f items) where
  gives-same : (ns : List ℕ) (items : List Item)
      → f (map (λ n. Item.Give n Origin.Synch (Stimulus.Event (number_event EXITED q))) ns ++ items) ≡ f items
  gives-same [] items = refl
  gives-same (n ∷ ns) items = same n _ ∙ gives-same ns items

  pub farewells-same : (s : Scheduler Bool) (rest agenda : List Item) → f ((farewells q s ++ rest) ++ agenda) ≡ f (rest ++ agenda)
  farewells-same s rest agenda = rw append_assoc (gives-same (numbers (without q s.processes)) (rest ++ agenda))

-- A call that neither waits, exits nor kills puts its reply first, perhaps one more item before it, and marks a process at most.

abbrev pub is_replied : Call → Bool
is_replied Call.Wait = false
is_replied Call.Exit = false
is_replied (Call.Kill r) = false
is_replied _ = true

abbrev pub is_before_reply : Item → Bool
is_before_reply (Item.Start r) = true
is_before_reply (Item.Give r Origin.Synch (Stimulus.Event event)) = true
is_before_reply (Item.Show entry) = is_note entry
is_before_reply _ = false

abbrev pub reply_turn : ℕ → Reply → Item
reply_turn q reply = Item.Turn q Origin.Answer (Stimulus.Answer reply)

-- P holds of the processes and the agenda after such a call of q
pub record KeptByReplies (P : List Process → List Item → Type 0) (q : ℕ) (s : Scheduler Bool) : Type 0 where
  pub replied : (reply : Reply) → P s.processes (reply_turn q reply ∷ s.agenda)
  pub marked : (n : ℕ) (reply : Reply) → P (with_mark n true s.processes) (reply_turn q reply ∷ s.agenda)
  pub preceded : (item : Item) (reply : Reply) → is_before_reply item ≡ true → P s.processes (item ∷ reply_turn q reply ∷ s.agenda)

pub kept_by_reply : {P : List Process → List Item → Type 0} (q : ℕ) (m : Machine) → KeptByReplies P q m.scheduler → (call : Call)
    → is_replied call ≡ true → P (after_call call q m).scheduler.processes (after_call call q m).scheduler.agenda
kept_by_reply = grind decide
