-- The agenda is in order, and has p where p's state says.
use Rattle.kernel_core.proofs.run_laws.Changes.{is_from_queue, farewells-same, all-delivered, all-mapped, is_note, behind, seats, state_of-seats, seats-with_state, seats-with_mark, seats-without, is_replied, reply_turn, kept_by_reply}
use Rattle.std.proofs.Common.{◌≡◌, ℕ, Bool, true, false, ◌||◌, List, [], ◌∷◌, ◌++◌, refl, arith, append-nil, if◌then◌else◌, ◌==◌, not, ◌&&◌, map}
use Rattle.kernel_core.specs.Laws.EventLaws.{is_event_of_code, is_exit}
use Rattle.kernel_core.proofs.Common.{list_any, list_any-append, decide, deed, Call, Reply, Stimulus, Origin, Entry, EXIT, list_all, State, Item, Scheduler, after_item, Machine, is_running, state_in, farewells, after_call}
use Rattle.kernel_core.proofs.run_laws.event_order.AcceptedEvents.{ends_in}

-- what may be below a Give of origin event
abbrev is_walk : Item → Bool
is_walk Item.Polls = true
is_walk (Item.Give q origin stimulus) = is_from_queue origin
is_walk _ = false

abbrev is_empty : List Item → Bool
is_empty [] = true
is_empty _ = false

abbrev is_fit_above : Item → List Item → Bool
is_fit_above (Item.Give q origin stimulus) items = not (is_from_queue origin) || list_all is_walk items
is_fit_above Item.Deliver items = is_empty items
is_fit_above (Item.Show entry) items = is_note entry
is_fit_above _ items = true

abbrev pub is_ordered : List Item → Bool
is_ordered [] = true
is_ordered (item ∷ items) = is_fit_above item items && is_ordered items

-- neither a Give of origin event nor a Deliver
abbrev is_plain : Item → Bool
is_plain (Item.Give q origin stimulus) = not (is_from_queue origin)
is_plain Item.Deliver = false
is_plain (Item.Show entry) = is_note entry
is_plain _ = true

ordered-append : (xs ys : List Item) → list_all is_plain xs ≡ true → is_ordered ys ≡ true → is_ordered (xs ++ ys) ≡ true
ordered-append [] ys h o = o
ordered-append (x ∷ xs) ys h o = grind (arith, ordered-append xs ys)

ordered-walk : (xs : List Item) → list_all is_walk xs ≡ true → is_ordered xs ≡ true
ordered-walk [] h = refl
ordered-walk (x ∷ xs) h = grind (arith, ordered-walk xs)

any-behind : (test : Item → Bool) (xs items : List Item) → list_any test items ≡ true → list_any test (xs ++ items) ≡ true
any-behind = grind (decide, list_any-append)

second_true : (a b : Bool) → (a && b) ≡ true → b ≡ true
second_true = grind decide

no_end : (own exits told : Bool) → (if own then exits || told else false) ≡ false → (own && told) ≡ false
no_end = grind decide

front_covered : (remove give turn all rest : Bool) → (not remove && all) ≡ true → rest ≡ true
    → (if remove then false else give || (turn || rest)) ≡ true
front_covered = grind decide

module _ (p : ℕ) where
  -- the agenda's items for p until it ends

  abbrev pub is_start : Item → Bool
  is_start (Item.Start q) = q == p
  is_start _ = false

  abbrev is_turn_of : Item → Bool
  is_turn_of (Item.Turn q origin stimulus) = q == p
  is_turn_of _ = false

  abbrev pub is_give_exit : Item → Bool
  is_give_exit (Item.GiveExit q) = q == p
  is_give_exit _ = false

  abbrev pub is_exit_turn : Item → Bool
  is_exit_turn (Item.Turn q origin stimulus) = q == p && is_event_of_code EXIT stimulus
  is_exit_turn _ = false

  abbrev is_remove : Item → Bool
  is_remove (Item.Remove q) = q == p
  is_remove _ = false

  abbrev is_kept : State → List Item → Bool
  is_kept State.Absent agenda = false
  is_kept State.Running agenda = true
  is_kept State.Called agenda = list_any is_turn_of agenda
  is_kept State.Leaving agenda = list_any is_give_exit agenda
  is_kept State.Ending agenda = list_any is_exit_turn agenda

  -- p is on the list once, or will be started
  abbrev is_placed : List State → List Item → Bool
  is_placed [] agenda = list_any is_start agenda
  is_placed (state ∷ []) agenda = is_kept state agenda
  is_placed _ agenda = false

  -- p gets EXIT before it leaves the list
  abbrev pub is_covered : List Item → Bool
  is_covered [] = true
  is_covered (item ∷ items) = if is_remove item then false else is_give_exit item || (is_exit_turn item || is_covered items)

  abbrev pub stands : Scheduler Bool → Bool
  stands s = is_placed (seats p s.processes) s.agenda && is_covered s.agenda

  placed-append : (l : List State) (xs items : List Item) → is_placed l items ≡ true → is_placed l (xs ++ items) ≡ true
  placed-append [] xs items h = any-behind is_start xs items h
  placed-append (State.Absent ∷ []) xs items h = h
  placed-append (State.Running ∷ []) xs items h = refl
  placed-append (State.Called ∷ []) xs items h = any-behind is_turn_of xs items h
  placed-append (State.Leaving ∷ []) xs items h = any-behind is_give_exit xs items h
  placed-append (State.Ending ∷ []) xs items h = any-behind is_exit_turn xs items h
  placed-append (state ∷ other ∷ rest) xs items h = h

  covered-append : (xs items : List Item) → list_all (λ item. not (is_remove item)) xs ≡ true → is_covered items ≡ true
      → is_covered (xs ++ items) ≡ true
  covered-append [] items n h = h
  covered-append (x ∷ xs) items n h =
      front_covered (is_remove x) (is_give_exit x) (is_exit_turn x) _ (is_covered (xs ++ items)) n
      (covered-append xs items (second_true (not (is_remove x)) _ n) h)

pub carried-ordered : (item : Item) (s : Scheduler Bool) → is_ordered (item ∷ s.agenda) ≡ true
    → is_ordered (after_item item s).agenda ≡ true
carried-ordered Item.Polls s h = grind (decide, ordered-append, all-mapped)
carried-ordered Item.Deliver s h = grind (decide, append-nil, ordered-walk, all-delivered)
carried-ordered item s h = grind decide

abbrev pub is_silent : Item → Bool
is_silent (Item.Turn q origin stimulus) = false
is_silent _ = true

module _ (p : ℕ) where
  abbrev pub holds : List State → List Item → Bool
  holds l agenda = is_placed p l agenda && is_covered p agenda

  abbrev is_quiet : Item → Bool
  is_quiet item = not (is_remove p item)

  holds-append : (l : List State) (xs items : List Item) → list_all is_quiet xs ≡ true → holds l items ≡ true
      → holds l (xs ++ items) ≡ true
  holds-append = grind (decide, placed-append, covered-append)

  -- an item that makes no entry keeps p's position
  pub carried-stands : (item : Item) (s : Scheduler Bool) → is_silent item ≡ true → stands p (behind item s) ≡ true
      → stands p (after_item item s) ≡ true
  carried-stands (Item.Start q) s n h = grind (decide, state_of-seats)
  carried-stands (Item.Give q origin stimulus) s n h = grind (decide, seats-with_state)
  carried-stands (Item.GiveExit q) s n h = grind (decide, seats-with_state)
  carried-stands (Item.Remove q) s n h = grind (decide, seats-without)
  carried-stands item s n h = grind (decide, holds-append, all-mapped, seats-with_mark, all-delivered)

module _ (p : ℕ) where
  -- nothing below a Give of origin event concerns p's position
  walk-free : (items : List Item) → list_all is_walk items ≡ true
      → (list_any (is_start p) items
      || (list_any (is_turn_of p) items || (list_any (is_give_exit p) items || list_any (is_exit_turn p) items))) ≡ false
  walk-free [] h = refl
  walk-free (item ∷ items) h = grind (arith, walk-free items)

  -- a Give of origin event finds p Running
  pub given-running : (q : ℕ) (stimulus : Stimulus) (s : Scheduler Bool) → (q == p) ≡ true
      → is_ordered (Item.Give q Origin.Event stimulus ∷ s.agenda) ≡ true
      → stands p (behind (Item.Give q Origin.Event stimulus) s) ≡ true → is_running (state_in s q) ≡ true
  given-running = grind (decide, walk-free, state_of-seats)

module _ (q : ℕ) (m : Machine) (h : is_ordered m.scheduler.agenda ≡ true) where
  pub after-ordered : (call : Call) → is_ordered (after_call call q m).scheduler.agenda ≡ true
  after-ordered Call.Wait = grind arith
  after-ordered Call.Exit = grind (decide, farewells-same is_ordered q (λ n items. refl))
  after-ordered (Call.Kill r) = grind (decide, farewells-same is_ordered r (λ n items. refl))
  after-ordered call =
      kept_by_reply {P = λ list items. is_ordered items ≡ true} q m
      (record { replied = λ reply. h; marked = λ n reply. h; preceded = λ item reply b. grind arith }) call refl

pub starts-ordered : (ns : List ℕ) → is_ordered (map (λ n. Item.Start n) ns) ≡ true
starts-ordered [] = refl
starts-ordered (n ∷ ns) = starts-ordered ns

module _ (p : ℕ) where
  holds-farewells : (l : List State) (q : ℕ) (s : Scheduler Bool) (rest agenda : List Item)
      → holds p l ((farewells q s ++ rest) ++ agenda) ≡ holds p l (rest ++ agenda)
  holds-farewells l q = farewells-same (holds p l) q (grind decide)

  -- q's reply takes the position of a turn that doesn't end p
  reply-stands : (q : ℕ) (origin : Origin) (stimulus : Stimulus) (reply : Reply) (s : Scheduler Bool)
      → (q == p && is_event_of_code EXIT stimulus) ≡ false → stands p (behind (Item.Turn q origin stimulus) s) ≡ true
      → stands p (behind (reply_turn q reply) s) ≡ true
  reply-stands = grind decide

  module _ (q : ℕ) (m : Machine) (origin : Origin) (stimulus : Stimulus)
      (h : stands p (behind (Item.Turn q origin stimulus) m.scheduler) ≡ true) where
    replied-stands : (call : Call) → is_replied call ≡ true
        → ends_in p (Entry.Turn (record { 0 = q }) origin stimulus call) ≡ false → stands p (after_call call q m).scheduler ≡ true
    replied-stands call r n =
        let list = m.scheduler.processes in
        let unended = no_end (q == p) (is_exit (deed call)) (is_event_of_code EXIT stimulus) n in
        let stays : (reply : Reply) → stands p (behind (reply_turn q reply) m.scheduler) ≡ true =
        λ reply. reply-stands q origin stimulus reply m.scheduler unended h in
        kept_by_reply {P = λ list items. holds p (seats p list) items ≡ true} q m
        (record {
          replied = stays;
          marked = λ n reply. rw (seats-with_mark p n true list) (stays reply);
          preceded = λ item reply b.
              holds-append p (seats p list) (item ∷ []) (reply_turn q reply ∷ m.scheduler.agenda) (grind arith) (stays reply);
        }) call r

    pub after-stands : (call : Call) → ends_in p (Entry.Turn (record { 0 = q }) origin stimulus call) ≡ false
        → stands p (after_call call q m).scheduler ≡ true
    after-stands Call.Wait n = grind (decide, state_of-seats, seats-with_state)
    after-stands Call.Exit n = grind (decide, seats-with_state, holds-farewells)
    after-stands (Call.Kill r) n = grind (decide, seats-with_state, holds-farewells)
    after-stands call n = replied-stands call refl n
