-- The stack stays sound, and is short.
use Rattle.process_core.proofs.Common.{◌≡◌, ℕ, ◌+◌, ◌<◌, ◌≤◌, Bool, true, false, List, [], ◌∷◌, length, refl, ap, arith, eqb, Option, Some, None, ◌*◌, IsDistinct, AllByRecursion, range_with_len, zero, suc, Pid, state_of, with_state, with_mark, without, IsApplication, is_in_activation, answering, is_one_of, has_ended, IsSound, Process, State, Continuation, IsOfMote, leaving, IsNested, AreIn, ◌++◌, reverse, length-reverse, Event, Stimulus, is_ending, IsInOrder, scheduler_behind, scheduler_of, front_items, reverse-append, SchedulerFields, Base, Front, IsOrdered, StartsKnown, active_in, turn_in, front_after}
use Rattle.std.proofs.lemmas.Bool.{or_parts}
use Rattle.std.proofs.lemmas.Cmp.{nat_eq_equiv}
use Rattle.std.proofs.lemmas.List.FromFn.{length-range_with_len}
use Rattle.std.proofs.lemmas.Map.Made.{length-le_from_is_member}
use Rattle.process_core.specs.declared.next_job.NextJob as answer

-- each continuation answers or leaves
short : (stack : List Continuation) → length stack ≤ length (answering stack) + length (leaving stack)
short [] = omega arith
short (Continuation.Answer pid ∷ below) = omega (arith, short below)
short (Continuation.Leave pid walk exits ∷ below) = omega (arith, short below)

module _ (p : ℕ) where
  pub none_from_is_one_of : (xs : List ℕ) → is_one_of p xs ≡ false → AllByRecursion (λ y. eqb p y ≡ false) xs
  none_from_is_one_of [] e = tt
  none_from_is_one_of (x ∷ xs) e =
      let both = or_parts (eqb p x) (is_one_of p xs) e in
      (both.0, none_from_is_one_of xs both.1)

  pub state_at : (state : State) (list : List Process) → (state_of p list ≡ State.Absent → ⊥)
      → state_of p (with_state p state list) ≡ state
  state_at state [] h = absurd (h refl)
  state_at state (x ∷ xs) h = grind (arith, state_at state xs)

  in_range : (a n : ℕ) → a ≤ p → p < a + n → is_one_of p (range_with_len a n) ≡ true
  in_range a zero least below = absurd (omega arith)
  in_range a (suc n) least below = grind (arith, in_range (a + 1) n)

  pub is_first : eqb p p ≡ true
  is_first = grind arith

  abbrev pub OthersStay : List Process → List Process → Type 0
  OthersStay old new = (q : ℕ) → eqb q p ≡ false → state_of q new ≡ state_of q old

  module _ (q : ℕ) where
    pub state_after : (state : State) (list : List Process) → eqb q p ≡ false → state_of q (with_state p state list) ≡ state_of q list
    state_after state [] h = refl
    state_after state (x ∷ xs) h = grind (arith, state_after state xs h)

    pub state_marked : (marked : Bool) (list : List Process) → state_of q (with_mark p marked list) ≡ state_of q list
    state_marked marked [] = refl
    state_marked marked (x ∷ xs) = grind (arith, state_marked marked xs)

    pub state_without : (list : List Process) → eqb q p ≡ false → state_of q (without p list) ≡ state_of q list
    state_without [] h = refl
    state_without (x ∷ xs) h = grind (arith, state_without xs h)

    pub same_number : eqb q p ≡ true → q ≡ p
    same_number e = grind arith

answering_apart : (stack : List Continuation) → IsNested stack → IsDistinct eqb (answering stack)
unfolding IsDistinct
answering_apart [] h = tt
answering_apart (Continuation.Answer pid ∷ below) h = (none_from_is_one_of pid.0 (answering below) h.0, answering_apart below h.1)
answering_apart (Continuation.Leave pid walk exits ∷ below) h = answering_apart below h.1

leaving_apart : (stack : List Continuation) → IsNested stack → IsDistinct eqb (leaving stack)
unfolding IsDistinct
leaving_apart [] h = tt
leaving_apart (Continuation.Answer pid ∷ below) h = leaving_apart below h.1
leaving_apart (Continuation.Leave pid walk exits ∷ below) h = (none_from_is_one_of pid.0 (leaving below) h.0.1, leaving_apart below h.1)

-- The parts stay in order.

pub pushed : (continuations : List Continuation) (f : Continuation) → reverse (continuations ++ f ∷ []) ≡ f ∷ reverse continuations
pushed continuations f = reverse-append continuations (f ∷ [])

-- while a call is awaited the front is empty
pub no_front : (front : Front) (p : Pid) (reply : Stimulus) (synch : Event) → turn_in front ≡ Some p → front_items front reply synch ≡ []
no_front front p reply synch e = grind arith

pub none_reported : (front : Front) (reply : Stimulus) (synch : Event) → ((p : Pid) → front ≡ Front.Answer p → ⊥)
    → ((p : Pid) → front ≡ Front.Give p → ⊥) → ((p : Pid) → front ≡ Front.Start p → ⊥)
    → ((p : Pid) (number : ℕ) → front ≡ Front.Callback p number → ⊥) → front_items front reply synch ≡ []
none_reported front reply synch answer give start callback = grind arith

module _ (test : State → Bool) where
  others_in : (p : ℕ) (old new : List Process) (xs : List ℕ)
      → OthersStay p old new → is_one_of p xs ≡ false
      → AreIn test old xs → AreIn test new xs
  others_in p old new xs same none are q h = grind arith

  pub application_in : (n : ℕ) (list : List Process) (p : ℕ) → IsOfMote n list → test (state_of p list) ≡ true
      → test State.Absent ≡ false → test State.Running ≡ false → IsApplication n p
  application_in n list p mote passes absent running = grind arith

  module _ (list : List Process) where
    module _ (xs : List ℕ) where
      module _ (p : ℕ) where
        pub none_in : AreIn test list xs → test (state_of p list) ≡ false → is_one_of p xs ≡ false
        none_in are e = grind arith

        one_more : AreIn test list xs → test (state_of p list) ≡ true → AreIn test list (p ∷ xs)
        one_more are passes q h = grind arith

        one_less : AreIn test list (p ∷ xs) → AreIn test list xs
        one_less are q h = grind arith

module _ (state : State) where
  pub stays_here : is_in_activation state ≡ true → (state ≡ State.Ending → ⊥) → has_ended state ≡ false
  stays_here a n = grind arith

  pub present : is_in_activation state ≡ true → state ≡ State.Absent → ⊥
  present a e = grind arith

  pub not_ending : (state ≡ State.Ending → ⊥) → is_ending state ≡ false
  not_ending n = grind arith

module _ (n : ℕ) where
  module _ (p : ℕ) where
    pub application_range : IsApplication n p → (4 ≤ p) × (p < 4 + n)
    application_range h = grind arith

    pub mote_changed : (old new : List Process) → IsApplication n p → OthersStay p old new → IsOfMote n old → IsOfMote n new
    mote_changed old new application same mote = grind arith

  few_applications : (xs : List ℕ) → IsDistinct eqb xs → ((p : ℕ) → is_one_of p xs ≡ true → IsApplication n p) → length xs ≤ n
  few_applications xs distinct are =
      rw length-range_with_len at (length-le_from_is_member nat_eq_equiv xs (range_with_len 4 n) distinct (λ p h.
      let a = application_range p (are p h) in in_range p 4 n a.0 a.1))

  -- at most two continuations for each application
  pub length-le_from_sound : (processes : List Process) (stack : List Continuation) (turn : Option Pid)
      → IsSound n processes stack turn → length stack ≤ 2 * n
  length-le_from_sound processes stack turn sound =
      let a = few_applications (answering stack) (answering_apart stack sound.nested)
      (λ p h. application_in is_in_activation n processes p sound.mote (sound.answers p h) refl refl) in
      grind (
        arith,
        short,
        few_applications (leaving stack) (leaving_apart stack sound.nested)
            (λ p h. application_in has_ended n processes p sound.mote (sound.leaves p h) refl refl),
      )

module _ {n : ℕ} {list : List Process} {stack : List Continuation} where
  pub sound-quiet : {turn : Option Pid}
      → IsSound n list stack turn → IsSound n list stack None
  sound-quiet s = grind arith

  -- p, which runs, gets a stimulus
  pub sound-given : (p : Pid)
      → IsSound n list stack None → 4 ≤ p.0 → state_of p.0 list ≡ State.Running
      → IsSound n (with_state p.0 State.Called list) stack (Some p)
  sound-given p s application runs =
      let new = with_state p.0 State.Called list in let present : (state_of p.0 list ≡ State.Absent → ⊥) = λ e. cc in
      let same = λ (r : ℕ) (h : eqb r p.0 ≡ false). state_after p.0 r State.Called list h in
      let a = none_in is_in_activation list (answering stack) p.0 s.answers (ap is_in_activation runs) in
      let l = none_in has_ended list (leaving stack) p.0 s.leaves (ap has_ended runs) in
      let called = state_at p.0 State.Called list present in
      grind arith

  pub sound-started : (p : ℕ)
      → IsSound n list stack None → p < 4 + n → state_of p list ≡ State.Absent
      → IsSound n (record { number = p; state = State.Running; marked = false } ∷ list) stack None
  sound-started p s known absent = grind arith

  module _ {pid : Pid} where
    -- p's call was accepted
    pub sound-answered : IsSound n list stack (Some pid) → IsSound n list (Continuation.Answer pid ∷ stack) None
    sound-answered s = grind arith

    pub application_at_turn : IsSound n list stack (Some pid) → IsApplication n pid.0
    application_at_turn s = grind arith

    pub sound-waited : IsSound n list stack (Some pid) → has_ended (state_of pid.0 list) ≡ false
        → IsSound n (with_state pid.0 State.Running list) stack None
    sound-waited s e = grind (arith, state_after, others_in, none_in)

  module _ (q : Pid) where
    module _ (walk : List ℕ) where
      -- q begins to leave
      pub sound-left : (exits : Bool)
          → IsSound n list stack None → IsApplication n q.0 → is_one_of q.0 (answering stack) ≡ false
          → has_ended (state_of q.0 list) ≡ false → (state_of q.0 list ≡ State.Absent → ⊥)
          → IsSound n (with_state q.0 State.Leaving list) (Continuation.Leave q walk exits ∷ stack) None
      sound-left exits s application apart stays present =
          let new = with_state q.0 State.Leaving list in
          let same = λ (r : ℕ) (h : eqb r q.0 ≡ false). state_after q.0 r State.Leaving list h in
          let none = none_in has_ended list (leaving stack) q.0 s.leaves stays in
          record {
            mote = grind (arith, mote_changed);
            nested = ((apart, none), s.nested);
            answers = others_in is_in_activation q.0 list new (answering stack) same apart s.answers;
            leaves =
                one_more has_ended new (leaving stack) q.0 (others_in has_ended q.0 list new (leaving stack) same none s.leaves)
                (ap has_ended (state_at q.0 State.Leaving list present));
            at_turn = tt;
          }

      -- q gets EXIT
      pub sound-exiting : (later : List ℕ) (exits still : Bool)
          → IsSound n list (Continuation.Leave q walk exits ∷ stack) None
          → IsSound n (with_state q.0 State.Ending list) (Continuation.Leave q later still ∷ stack) (Some q)
      sound-exiting later exits still s =
          let new = with_state q.0 State.Ending list in let own = s.leaves q.0 (grind arith) in
          let ends = state_at q.0 State.Ending list (λ absent. grind (arith, own)) in
          grind (arith, (λ (r : ℕ) (h : eqb r q.0 ≡ false). state_after q.0 r State.Ending list h))

      -- q leaves the list
      pub sound-removed : (exits : Bool)
          → IsSound n list (Continuation.Leave q walk exits ∷ stack) None → IsSound n (without q.0 list) stack None
      sound-removed exits s =
          grind (arith, state_without, application_in, others_in, one_less)

module _ (d : SchedulerFields) where
  -- the stack has room for two more continuations at any time
  pub few_continuations : (stack : List Continuation) → IsOrdered d stack → length stack ≤ 2 * d.applications
  few_continuations stack order = grind (arith, length-le_from_sound)

  pub few_items : IsInOrder d → length d.stack.items ≤ 2 * d.applications
  few_items order = grind (arith, few_continuations, length-reverse)

  pub room_on_stack : IsInOrder d → length d.stack.items ≤ 32
  room_on_stack order = grind (arith, few_items)

  -- and for one more than before f was taken
  pub room_below : (f : Continuation) → IsOrdered d (f ∷ reverse d.stack.items) → length d.stack.items ≤ 31
  room_below f order =
      omega (arith, few_continuations (f ∷ reverse d.stack.items) order, order.few, length-reverse d.stack.items)

  pub idle_sound : {stack : List Continuation} → IsOrdered d stack → d.front ≡ Front.Nothing
      → IsSound d.applications d.processes stack None
  idle_sound order idle = rw idle at order.sound

  -- after a step the fields are in order if boot, events and numbers are unchanged
  pub in_order : {before : List Continuation} {list : List Process} {stack : List Continuation} {synch : Event} {front : Front}
      → IsOrdered d before
      → IsSound d.applications list (reverse stack) (active_in front) → StartsKnown d.applications front
      → IsInOrder (record d { processes = list; stack = record { items = stack }; synch = synch; front = front })
  in_order order holds starts = grind arith

  pub order_booting : (p : ℕ) (later : List ℕ) → d.base ≡ Base.Boot → d.walk ≡ p ∷ later → IsInOrder d
      → (p < 4 + d.applications) × IsInOrder (record d { walk = later })
  order_booting p later boots e order =
      let known = rw (boots, e) at order.boots in (
        known p (grind arith),
        grind arith,
      )

  -- the front then puts nothing on the agenda
  pub behind_is_all : (ready : Option answer.NextJob) → d.front ≡ front_after ready → scheduler_behind d ≡ scheduler_of d
  behind_is_all ready e = grind arith

  pub turn_sound : (p : Pid) → IsInOrder d → turn_in d.front ≡ Some p
      → IsSound d.applications d.processes (reverse d.stack.items) (Some p)
  turn_sound p order e = grind arith

  -- only applications leave
  pub leaver_above : (q : Pid) (walk : List ℕ) (exits : Bool) (below : List Continuation)
      → IsOrdered d (Continuation.Leave q walk exits ∷ below) → 4 ≤ q.0
  leaver_above q walk exits below order = grind arith

  pub order_marked : (new : List Process) (p : ℕ) (marked : Bool) → IsInOrder d
      → new ≡ with_mark p marked d.processes → IsInOrder (record d { processes = new })
  order_marked new p marked order e = grind (arith, state_marked)
