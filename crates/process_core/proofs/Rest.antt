-- When nothing is left to do.
use Rattle.process_core.proofs.Common.{◌≡◌, ℕ, zero, suc, ◌<◌, true, false, List, [], ◌∷◌, ◌++◌, refl, arith, Option, Some, None, map, flat_map, list_any, items_of, base_items, agenda_of, receiver_items, list_any-append, Event, Item, Job, Scheduler, after_front, after_items, ComesTo, Continuation, Base, Front, SchedulerFields, wants_round, is_shown, ◌≤◌, length, drop, slice_get, IfNone, from_marked, Process, ◌+◌, add-one, range_with_len, at_first, state_of, is_one_of, IsInOrder, State, Stimulus, is_event}

module _ {X : Type 0} where
  pub record IsIdle (s : Scheduler X) : Type 0 where
    pub done : s.agenda ≡ []
    pub quiet : wants_round s ≡ false

  pub idle_from_rest : (s after : Scheduler X) → ComesTo s Job.Rest after → IsIdle after
  idle_from_rest s after c = grind arith

-- ---- only the kernel's processes are served

module _ {X : Type 0} where
  pub served_below : (s : Scheduler X) (q : ℕ) (other : Event) (after : Scheduler X) → ComesTo s (Job.Serve q other) after → q < 4
  served_below s q other after c = grind arith

pub event_held : (stimulus : Stimulus) → is_event stimulus ≡ true → (event : Event) × (stimulus ≡ Stimulus.Event event)
event_held (Stimulus.Event event) is = (event, refl)
event_held (Stimulus.Answer reply) is = absurd (cc)
event_held (Stimulus.Callback number) is = absurd (cc)

-- ---- the number of applications never changes

module _ {X : Type 0} where
  pub applications_after_items : (n : ℕ) (s : Scheduler X) → (after_items n s).applications ≡ s.applications
  applications_after_items zero s = refl
  applications_after_items (suc n) s =
      grind (arith, applications_after_items n (after_front s))

  pub applications_from_comes_to : (s : Scheduler X) (next : Job X) (after : Scheduler X) → ComesTo s next after
      → after.applications ≡ s.applications
  applications_from_comes_to s next after c = grind (arith, applications_after_items)

-- ---- continuations never stand for an entry that must be shown

none_shown : (ps : List ℕ) (f : ℕ → Item) → ((p : ℕ) → is_shown (f p) ≡ false) → list_any is_shown (map f ps) ≡ false
none_shown [] f h = refl
none_shown (p ∷ ps) f h = grind (arith, none_shown ps f h)

shown_in_either : (xs ys : List Item) → list_any is_shown xs ≡ false → list_any is_shown ys ≡ false → list_any is_shown (xs ++ ys) ≡ false
shown_in_either xs ys a b = grind (arith, list_any-append)

none_shown_to_receivers : (event : Stimulus) (ps : List ℕ) → list_any is_shown (receiver_items event ps) ≡ false
none_shown_to_receivers event [] = refl
none_shown_to_receivers event (p ∷ ps) = none_shown_to_receivers event ps

nothing_shown_in : (continuation : Continuation) → list_any is_shown (items_of continuation) ≡ false
nothing_shown_in continuation = grind (arith, shown_in_either, none_shown)

nothing_shown_on : (stack : List Continuation) → list_any is_shown (flat_map items_of stack) ≡ false
nothing_shown_on [] = refl
nothing_shown_on (continuation ∷ below) =
    shown_in_either (items_of continuation) (flat_map items_of below) (nothing_shown_in continuation) (nothing_shown_on below)

nothing_shown_below : (base : Base) (walk : List ℕ) (event : Stimulus) → list_any is_shown (base_items base walk event) ≡ false
nothing_shown_below base walk event = grind (arith, none_shown, none_shown_to_receivers)

-- The next process of a walk.
pub first_and_rest : {A : Type 0} (xs : List A) (x : A) → slice_get xs 0 ≡ Some x → xs ≡ x ∷ drop 1 xs
first_and_rest xs x e = grind arith

pub none_first : {A : Type 0} (xs : List A) → slice_get xs 0 ≡ None → xs ≡ []
none_first [] e = refl
none_first (x ∷ xs) e = absurd (cc)

pub length-from_marked : (list : List Process) (walk : List ℕ) → length (from_marked list walk) ≤ length walk
length-from_marked list [] = omega arith
length-from_marked list (p ∷ walk) = grind (arith, length-from_marked list walk)

pub if_none : {A : Type 0} {P : Type 0} (x : Option A) → P → IfNone x P
if_none None h = h
if_none (Some x) h = tt

-- The scheduler at boot.
pub range_more : (a n : ℕ) → range_with_len a (n + 1) ≡ range_with_len a n ++ (a + n) ∷ []
range_more a zero = grind arith
range_more a (suc n) = rw add-one (grind (arith, range_more (a + 1) n))

module _ (p : ℕ) where
  pub below_range : (a n : ℕ) → is_one_of p (range_with_len a n) ≡ true → p < a + n
  below_range a zero h = absurd (cc)
  below_range a (suc n) h = grind (arith, below_range (a + 1) n)

  none_beyond : 4 ≤ p → state_of p at_first ≡ State.Absent
  none_beyond h = grind arith

module _ (d : SchedulerFields) where
  pub nothing_shown : list_any is_shown (agenda_of d) ≡ false
  nothing_shown = grind (arith, shown_in_either, nothing_shown_on, none_shown, nothing_shown_below)

  pub order_at_boot : d.applications ≤ 16 → d.walk ≡ range_with_len 4 d.applications → d.processes ≡ at_first
      → d.stack.items ≡ [] → d.base ≡ Base.Boot → d.events.capacity ≡ 32 → d.next_event ≡ 140 → d.front ≡ Front.Nothing
      → is_event d.broadcast ≡ true → IsInOrder d
  order_at_boot few is_range list stack boot room next idle event = grind (arith, below_range, none_beyond)
