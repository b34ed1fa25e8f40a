-- A round that only polls one kernel process.
use Rattle.process_core.proofs.Common.{◌≡◌, ℕ, ◌<◌, ◌==◌, Bool, ComesTo, wants_round, true, false, ◌&&◌, List, [], ◌∷◌, length, refl, arith, Some, not, map, nat_tests, POLL, plain_event, Item, Job, from_marked, is_one_of, is_empty, is_only_marked, polled_alone, polls_alone, numbers, is_marked, is_any_marked, is_kernel_process, with_mark, Scheduler, in_front, Process, unmarked, IsLonePoll, zero, suc, ◌≤◌, nat_eq, ◌++◌, drop, ◌∙◌, flat_map, nat_lt, reverse, length-reverse, Stimulus, front_items, items_of, base_items, agenda_of, Base, Continuation, SchedulerFields, sym, ap, if◌then◌else◌, is_other_event, from_application, is_kernel_next, passes_receiver, kernel_receivers_passed, scheduler_of, receiver_is_next, poll_items, receiver_items, behind_kernel_receivers, is_broadcast, is_idle, marked, state_of, State}
use Rattle.std.proofs.lemmas.Bool.{and_parts, not-true, or_parts}
use Rattle.process_core.proofs.Listed.{marked_from_running}
use Rattle.process_core.proofs.Yields.{unmarked_pass, poll_one_yields, yields_next, yields_after}

pub empty_list : {A : Type 0} (xs : List A) → is_empty xs ≡ true → xs ≡ []
empty_list xs h = grind arith

pub both_true : {a b : Bool} → a ≡ true → b ≡ true → (a && b) ≡ true
both_true e f = grind arith

-- if no process is marked, a poll round passes over all
none_marked : (list : List Process) (p : ℕ) → is_any_marked list ≡ false → is_marked p list ≡ false
none_marked [] p h = refl
none_marked (x ∷ list) p h = grind (arith, none_marked list p (grind arith))

marked_is_one_of : (list : List Process) (p : ℕ) → is_marked p list ≡ true → is_one_of p (numbers list) ≡ true
marked_is_one_of [] p h = absurd (cc)
marked_is_one_of (x ∷ list) p h = grind (arith, marked_is_one_of list p)

marked_is_any : (list : List Process) (p : ℕ) → is_marked p list ≡ true → is_any_marked list ≡ true
marked_is_any [] p h = absurd (cc)
marked_is_any (x ∷ list) p h = grind (arith, marked_is_any list p)

-- if clearing p's mark leaves none, only p was marked
alone_marked : (list : List Process) (p q : ℕ) → is_any_marked (with_mark p false list) ≡ false → is_marked q list ≡ true → q ≡ p
alone_marked [] p q none h = absurd (cc)
alone_marked (x ∷ list) p q none h = grind (arith, alone_marked list p q)

module _ (list : List Process) where
  pub none_from_marked : (walk : List ℕ) → is_any_marked list ≡ false → from_marked list walk ≡ []
  none_from_marked [] h = refl
  none_from_marked (p ∷ walk) h = rw (none_marked list p h) (none_from_marked walk h)

  -- the poll round reaches p, the only marked process
  marked_first : (walk : List ℕ) (p : ℕ) → ((q : ℕ) → is_marked q list ≡ true → q ≡ p) → is_marked p list ≡ true
      → is_one_of p walk ≡ true
      → (later : List ℕ) × (from_marked list walk ≡ p ∷ later)
  marked_first [] p alone here h = absurd (cc)
  marked_first (q ∷ walk) p alone here h = split (is_marked q list) refl (marked_first walk p alone here)
    where
      split : (b : Bool) → is_marked q list ≡ b → (is_one_of p walk ≡ true → (later : List ℕ) × (from_marked list walk ≡ p ∷ later))
          → (later : List ℕ) × (from_marked list (q ∷ walk) ≡ p ∷ later)
      split true e more = (walk, rw e (rw (alone q e) refl))
      split false e more = let rest = more (grind (arith, nat_tests, h, here, e)) in (rest.0, rw e rest.1)

module _ {X : Type 0} where
  module _ (s : Scheduler X) where
    module _ (p : ℕ) where
      -- the result of the poll round; `later` is the walk after p
      lone_poll_at : (later : List ℕ) → s.agenda ≡ [] → is_kernel_process p ≡ true
          → is_marked p s.processes ≡ true
          → is_any_marked s.processes ≡ true → is_any_marked (with_mark p false s.processes) ≡ false
          → from_marked s.processes (numbers s.processes) ≡ p ∷ later → IsLonePoll p s
      lone_poll_at later bare kernel here some none first =
          let round = record s { agenda = Item.Deliver ∷ [] } in
          let begun = in_front (Item.Polls ∷ []) round in
          let after = in_front (map (λ q. Item.PollOne q) later) round in
          let served = record after { processes = with_mark p false s.processes } in
          let left = record round { processes = with_mark p false s.processes } in
          let poll = Job.Serve p (plain_event POLL) in
          record {
            begun = begun;
            served = served;
            round = grind arith;
            poll =
                yields_next begun (Some poll) served refl
                (rw some
                (yields_after (in_front (map (λ q. Item.PollOne q) (numbers s.processes)) round)
                (in_front (map (λ q. Item.PollOne q) (p ∷ later)) round) (Some poll) served
                (rw first at (unmarked_pass round (numbers s.processes)))
                (poll_one_yields after p (Some poll) served here (0, rw kernel refl, rw kernel refl))));
            over = rw (none_from_marked (with_mark p false s.processes) later none) at (unmarked_pass left later);
          }

      pub lone_poll : p < 4 → polls_alone p s ≡ true → IsLonePoll p s
      lone_poll low alone =
          let outer = and_parts (is_empty s.agenda) (is_only_marked p s.processes) alone in
          let only = and_parts (is_marked p s.processes) (not (is_any_marked (with_mark p false s.processes))) outer.1 in
          let none = not-true (is_any_marked (with_mark p false s.processes)) only.1 in
          grind (
            arith,
            lone_poll_at,
            empty_list,
            nat_tests,
            marked_is_any,
            marked_first s.processes (numbers s.processes) p
                (λ q h. alone_marked s.processes p q none h) only.0
                (marked_is_one_of s.processes p only.0),
          )

-- Marking a process at rest, and removing the mark again.
marked_again : (list : List Process) (p : ℕ) → is_any_marked list ≡ false → with_mark p false (with_mark p true list) ≡ list
marked_again [] p none = refl
marked_again (x ∷ list) p none = grind (arith, marked_again list p)

none_waits : {A : Type 0} (events : List A) → nat_lt 0 (length events) ≡ false → events ≡ []
none_waits [] h = refl
none_waits (x ∷ events) h = absurd (grind arith)

module _ {X : Type 0} where
  module _ (s : Scheduler X) where
    module _ (p : ℕ) where
      pub unmarked_again : is_idle s ≡ true → unmarked p (marked p s) ≡ s
      unmarked_again idle = grind (arith, marked_again)

      pub polls_alone_from_rest : is_idle s ≡ true → state_of p s.processes ≡ State.Running
          → polls_alone p (marked p s) ≡ true
      polls_alone_from_rest idle runs = grind (arith, marked_from_running, marked_again)

      pub rests_after_poll : is_idle s ≡ true → ComesTo (polled_alone p (marked p s)) Job.Rest (unmarked p (marked p s))
      rests_after_poll idle =
          let parts = and_parts (is_empty s.agenda) (not (wants_round s)) idle in
          let wants = or_parts (is_any_marked s.processes) (nat_lt 0 (length s.events)) (not-true (wants_round s) parts.1) in
          let bare = empty_list s.agenda parts.0 in let quiet = none_waits s.events wants.1 in
          let rested = record s { processes = s.processes } in
          rw (marked_again s.processes p wants.0)
          (yields_next (record s { agenda = Item.Deliver ∷ [] }) (Some Job.Rest) rested (rw quiet refl)
          (0, rw (quiet, wants.0) refl, rw (quiet, wants.0, bare) refl))

-- When nothing is left to do.
pub is_empty_append : {A : Type 0} (xs ys : List A) → is_empty (xs ++ ys) ≡ (is_empty xs && is_empty ys)
is_empty_append xs ys = grind arith

pub is_empty_map : {A B : Type 0} (f : A → B) (xs : List A) → is_empty (map f xs) ≡ is_empty xs
is_empty_map f xs = grind arith

has_more : (continuation : Continuation) → is_empty (items_of continuation) ≡ false
has_more (Continuation.Leave pid [] true) = refl
has_more (Continuation.Leave pid [] false) = refl
has_more (Continuation.Leave pid (p ∷ walk) exits) = refl
has_more (Continuation.Answer pid) = refl

is_empty_stack : (stack : List Continuation) → is_empty (flat_map items_of stack) ≡ is_empty stack
is_empty_stack stack = grind (arith, is_empty_append)

pub is_empty_continuations : (continuations : List Continuation) → is_empty (reverse continuations) ≡ (length continuations == 0)
is_empty_continuations continuations = grind (arith, length-reverse)

pub is_empty_drop : (n : ℕ) (xs : List ℕ) → n ≤ length xs → is_empty (drop n xs) ≡ nat_eq n (length xs)
is_empty_drop zero [] h = refl
is_empty_drop zero (x ∷ xs) h = grind arith
is_empty_drop (suc n) [] h = absurd (omega arith)
is_empty_drop (suc n) (x ∷ xs) h = grind (arith, is_empty_drop n xs)

-- Kernel processes that are next are passed in the base's walk as on the agenda.
application_first : (walk : List ℕ) → is_kernel_next walk ≡ false → from_application walk ≡ walk
application_first [] h = refl
application_first (p ∷ walk) h = rw h refl

module _ (codes : List ℕ) where
  receivers_behind : (event : Stimulus) (walk : List ℕ) (other : Bool) → is_other_event codes event ≡ other
      → behind_kernel_receivers codes (receiver_items event walk) ≡ receiver_items event (if other then from_application walk else walk)
  receivers_behind event [] true e = refl
  receivers_behind event [] false e = refl
  receivers_behind event (p ∷ walk) other e = grind (arith, receivers_behind event walk other e)

  -- none is next unless the base is a broadcast

  nothing_in_base : (base : Base) (walk : List ℕ) (event : Stimulus) → is_broadcast base ≡ false
      → behind_kernel_receivers codes (base_items base walk event) ≡ base_items base walk event
  nothing_in_base Base.Nothing walk event none = refl
  nothing_in_base Base.Boot [] event none = refl
  nothing_in_base Base.Boot (p ∷ walk) event none = refl
  nothing_in_base (Base.Deliver true) walk event none = refl
  nothing_in_base (Base.Deliver false) walk event none = refl
  nothing_in_base (Base.Broadcast true) [] event none = refl
  nothing_in_base (Base.Broadcast true) (p ∷ walk) event none = refl
  nothing_in_base (Base.Broadcast false) walk event none = absurd (cc)

  nothing_behind : (stack : List Continuation) (polls : List ℕ) (base : Base) (walk : List ℕ) (event : Stimulus)
      → (is_empty stack && (is_empty polls && is_broadcast base)) ≡ false
      → behind_kernel_receivers codes (flat_map items_of stack ++ (poll_items polls ++ base_items base walk event))
      ≡ flat_map items_of stack ++ (poll_items polls ++ base_items base walk event)
  nothing_behind [] polls base walk event none = grind (arith, nothing_in_base)
  nothing_behind (Continuation.Leave pid [] true ∷ below) polls base walk event none = refl
  nothing_behind (Continuation.Leave pid [] false ∷ below) polls base walk event none = refl
  nothing_behind (Continuation.Leave pid (p ∷ others) exits ∷ below) polls base walk event none = refl
  nothing_behind (Continuation.Answer pid ∷ below) polls base walk event none = refl

  module _ (d : SchedulerFields) where
    -- a receiver is next: only the broadcast is open
    pub receivers_open : (walk : List ℕ) → receiver_is_next d ≡ true
        → agenda_of (record d { walk = walk }) ≡ receiver_items d.broadcast walk
    receivers_open walk h =
        let first = and_parts (is_empty (front_items d.front d.reply d.synch)) (_) h in let second = and_parts (_) (_) first.1 in
        let third = and_parts (is_empty d.polls) (is_broadcast d.base) second.1 in
        grind (arith, empty_list (reverse d.stack.items) (is_empty_continuations d.stack.items ∙ second.0))

    pub passed : passes_receiver codes d ≡ true
        → (is_any_marked d.processes ≡ false)
        × (agenda_of (record d { walk = from_application d.walk }) ≡ behind_kernel_receivers codes (agenda_of d))
    passed h = grind (arith, receivers_open, receivers_behind)

    -- otherwise none is passed
    none_open : passes_receiver codes d ≡ false → is_any_marked d.processes ≡ false
        → agenda_of d ≡ behind_kernel_receivers codes (agenda_of d)
    none_open h none =
        split (is_kernel_next d.walk) refl (receiver_is_next d) refl (is_other_event codes d.broadcast) refl (rw none at h)
      where
        split : (kernel : Bool) → is_kernel_next d.walk ≡ kernel → (next : Bool) → receiver_is_next d ≡ next
            → (other : Bool) → is_other_event codes d.broadcast ≡ other → (kernel && (true && (next && other))) ≡ false
            → agenda_of d ≡ behind_kernel_receivers codes (agenda_of d)
        split true k true n true o h = absurd (cc)
        split false k true n true o h =
            receivers_open d.walk n
            ∙ sym (ap (behind_kernel_receivers codes) (receivers_open d.walk n) ∙ receivers_behind d.broadcast d.walk true o
            ∙ ap (receiver_items d.broadcast) (application_first d.walk k))
        split kernel k true n false o h =
            receivers_open d.walk n
            ∙ sym (ap (behind_kernel_receivers codes) (receivers_open d.walk n) ∙ receivers_behind d.broadcast d.walk false o)
        split kernel k false n other o h =
            sym (grind (arith, nat_tests, nothing_behind, rw (← is_empty_continuations d.stack.items) at n))

    pub none_passed : passes_receiver codes d ≡ false
        → kernel_receivers_passed codes (scheduler_of d) ≡ scheduler_of d
    none_passed h = split (is_any_marked d.processes) refl
      where
        split : (marked : Bool) → is_any_marked d.processes ≡ marked
            → kernel_receivers_passed codes (scheduler_of d) ≡ scheduler_of d
        split true some = rw some refl
        split false none = rw (none, sym (none_open h none)) refl

module _ (d : SchedulerFields) where
  -- the agenda is empty if each part of the open work is over
  pub is_empty_agenda : is_empty (agenda_of d)
      ≡ (is_empty (front_items d.front d.reply d.synch)
      && ((length d.stack.items == 0) && (is_empty d.polls && is_empty (base_items d.base d.walk d.broadcast))))
  is_empty_agenda = grind (arith, is_empty_append, is_empty_stack, is_empty_continuations, is_empty_map)

module _ (d : SchedulerFields) where
  pub delivers_only : is_empty (agenda_of d) ≡ true → agenda_of (record d { base = Base.Deliver true }) ≡ Item.Deliver ∷ []
  delivers_only h =
      let all = sym (is_empty_agenda d) ∙ h in
      let first = and_parts (is_empty (front_items d.front d.reply d.synch)) (_) all in let second = and_parts (_) (_) first.1 in
      let third = and_parts (is_empty d.polls) (_) second.1 in
      let front = empty_list (front_items d.front d.reply d.synch) first.0 in
      let bare = empty_list (reverse d.stack.items) (is_empty_continuations d.stack.items ∙ second.0) in
      rw (front, bare, empty_list d.polls third.0) refl

module _ (is_polled : Bool) where
  module _ (walk : List ℕ) where
    module _ (event : Stimulus) where
      pub deliver_has_more : is_empty (base_items (Base.Deliver is_polled) walk event) ≡ false
      deliver_has_more = grind arith

      pub is_empty_broadcast : is_empty (base_items (Base.Broadcast is_polled) walk event) ≡ is_empty walk
      is_empty_broadcast = grind arith
