-- Work done in parts.
use Rattle.process_core.proofs.Common.{◌≡◌, ℕ, zero, suc, Bool, true, false, List, [], ◌∷◌, ◌++◌, refl, sym, ◌∙◌, ap, arith, Option, Some, None, is_some, drop, map, slice_get, ◌≤◌, Stimulus, Pid, scheduler_behind, from_marked, Event, Origin, POLL, plain_event, numbers, is_any_marked, is_marked, with_mark, Item, Job, Scheduler, after_front, job, after_items, in_front, state_in, FindsJob, Yields, SchedulerFields, State, is_empty, poll_items, Base, IsBare, job_in, kept_in, option_map}
use Rattle.process_core.proofs.Rest.{none_first}
use Rattle.circular_buffer.specs.Buffer.{Buffer}
use Rattle.process_core.specs.Code.SchedulerView.{Kept, is_apart, told}
use Rattle.process_core.specs.declared.queued.Queued as code
use Rattle.process_core.specs.declared.next_job.NextJob.{NextJob}

module _ {X : Type 0} where
  pub yields_next : (s : Scheduler X) (next : Option (Job X)) (after : Scheduler X)
      → job s ≡ None → Yields (after_front s) next after → Yields s next after
  yields_next s None after e y = (suc y.0, rw e y.1)
  yields_next s (Some next) after e y = (suc y.0, rw e y.1, rw e y.2)

  stays : (m : ℕ) (s : Scheduler X) → is_some (job s) ≡ true → after_items m s ≡ s
  stays m s e = grind arith

  after_items_twice : (n m : ℕ) (s : Scheduler X) → (k : ℕ) × (after_items k s ≡ after_items m (after_items n s))
  after_items_twice zero m s = (m, refl)
  after_items_twice (suc n) m s = split (is_some (job s)) refl (after_items_twice n m (after_front s))
    where
      split : (b : Bool) → is_some (job s) ≡ b → (k : ℕ) × (after_items k (after_front s) ≡ after_items m (after_items n (after_front s)))
          → (k : ℕ) × (after_items k s ≡ after_items m (after_items (suc n) s))
      split true e r = (zero, rw e (sym (stays m s e)))
      split false e r = (suc r.0, rw e r.1)

  module _ (s : Scheduler X) where
    -- if no process is marked, a poll round does nothing
    pub unpolled_yields : (next : Option (Job X)) (after : Scheduler X) → is_any_marked s.processes ≡ false
        → Yields s next after → Yields (in_front (Item.Polls ∷ []) s) next after
    unpolled_yields next after e y = yields_next (in_front (Item.Polls ∷ []) s) next after refl (rw e y)

    pub yields_after : (between : Scheduler X) (next : Option (Job X)) (after : Scheduler X)
        → Yields s None between → Yields between next after → Yields s next after
    yields_after between None after first y =
        let r = after_items_twice first.0 y.0 s in (r.0, r.1 ∙ ap (after_items y.0) first.1 ∙ y.1)
    yields_after between (Some next) after first y = grind (arith, after_items_twice first.0 y.0 s)

    pub unmarked_pass : (walk : List ℕ)
        → Yields (in_front (map (λ p. Item.PollOne p) walk) s) None (in_front (map (λ p. Item.PollOne p) (from_marked s.processes walk)) s)
    unmarked_pass [] = (0, refl)
    unmarked_pass (p ∷ walk) = split (is_marked p s.processes) refl (unmarked_pass walk)
      where
        split : (b : Bool) → is_marked p s.processes ≡ b
            → Yields (in_front (map (λ q. Item.PollOne q) walk) s) None
            (in_front (map (λ q. Item.PollOne q) (from_marked s.processes walk)) s)
            → Yields (in_front (map (λ q. Item.PollOne q) (p ∷ walk)) s) None
            (in_front (map (λ q. Item.PollOne q) (from_marked s.processes (p ∷ walk))) s)
        split true e later = rw e (0, refl)
        split false e later =
            rw e (
            yields_next (in_front (map (λ q. Item.PollOne q) (p ∷ walk)) s) None
            (in_front (map (λ q. Item.PollOne q) (from_marked s.processes walk)) s)
            refl (rw e later)
            )

    passed_by : (passed left : List ℕ) → from_marked s.processes passed ≡ []
        → Yields (in_front (map (λ p. Item.PollOne p) (passed ++ left)) s) None (in_front (map (λ p. Item.PollOne p) left) s)
    passed_by [] left none = (0, refl)
    passed_by (p ∷ passed) left none = split (is_marked p s.processes) refl none (passed_by passed left)
      where
        split : (b : Bool) → is_marked p s.processes ≡ b → from_marked s.processes (p ∷ passed) ≡ []
            → (from_marked s.processes passed ≡ []
            → Yields (in_front (map (λ q. Item.PollOne q) (passed ++ left)) s) None (in_front (map (λ q. Item.PollOne q) left) s))
            → Yields (in_front (map (λ q. Item.PollOne q) (p ∷ (passed ++ left))) s) None (in_front (map (λ q. Item.PollOne q) left) s)
        split true e none later = let some = rw e at none in absurd (cc)
        split false e none later =
            yields_next (in_front (map (λ q. Item.PollOne q) (p ∷ (passed ++ left))) s) None (in_front (map (λ q. Item.PollOne q) left) s)
            refl (rw e (later (rw e at none)))

    -- a poll round begins after some unmarked processes
    pub polls_begin : (left : List ℕ) → is_any_marked s.processes ≡ true
        → (passed : List ℕ) × (numbers s.processes ≡ passed ++ left) × (from_marked s.processes passed ≡ [])
        → Yields (in_front (Item.Polls ∷ []) s) None (in_front (map (λ p. Item.PollOne p) left) s)
    polls_begin left marked walked =
        yields_next (in_front (Item.Polls ∷ []) s) None (in_front (map (λ p. Item.PollOne p) left) s) refl
        (rw (marked, walked.1) (passed_by walked.0 left walked.2))

    module _ (p : ℕ) where
      -- an application that doesn't run gets nothing
      pub give_yields_nothing : (origin : Origin) (stimulus : Stimulus) → 4 ≤ p → (state_in s p ≡ State.Running → ⊥)
          → Yields (in_front (Item.Give p origin stimulus ∷ []) s) None s
      give_yields_nothing origin stimulus application busy = grind arith

      module _ (next : Option (Job X)) where
        module _ (after : Scheduler X) where
          pub poll_one_yields : is_marked p s.processes ≡ true
              → Yields (in_front (Item.Give p Origin.Poll (Stimulus.Event (plain_event POLL)) ∷ [])
              (record s { processes = with_mark p false s.processes })) next after
              → Yields (in_front (Item.PollOne p ∷ []) s) next after
          poll_one_yields e y = grind (arith, yields_next)

module _ (d : SchedulerFields) where
  -- the event at the front is for one process
  pub deliver_to_yields : (rest : Buffer code.Queued) (p : Pid) (event : Event) (next : Option (Job ℕ))
      (after : Scheduler ℕ)
      → Some (code.Queued.To p event) ≡ slice_get d.events.items 0
      → rest ≡ record { items = drop 1 d.events.items; capacity = d.events.capacity } → d.base ≡ Base.Nothing
      → Yields (in_front (Item.Give p.0 Origin.Event (Stimulus.Event event) ∷ [])
      (scheduler_behind (record d { events = rest; broadcast = Stimulus.Event event }))) next after
      → Yields (in_front (Item.Deliver ∷ []) (scheduler_behind d)) next after
  deliver_to_yields rest p event next after first left bare y = grind (arith, yields_next)

  -- What the poll round and the base lead to outside any activation.

  pub delivered : (is_polled : Bool) (next : Option (Job ℕ)) (after : Scheduler ℕ) → IsBare d (Base.Deliver is_polled)
      → (is_polled ≡ false → is_any_marked d.processes ≡ false)
      → Yields (in_front (Item.Deliver ∷ []) (scheduler_behind (record d { base = Base.Nothing }))) next after
      → Yields (scheduler_behind d) next after
  delivered true next after bare ready y = grind arith
  delivered false next after bare ready y =
      let given : Scheduler ℕ = in_front (Item.Deliver ∷ []) (scheduler_behind (record d { base = Base.Nothing })) in
      let start : scheduler_behind d ≡ in_front (Item.Polls ∷ []) given = rw (bare.stack, bare.polls, bare.base) refl in
      rw start (unpolled_yields given next after (ready refl) y)

  pub received : (is_polled : Bool) (p : ℕ) (later : List ℕ) (next : Option (Job ℕ)) (after : Scheduler ℕ)
      → IsBare d (Base.Broadcast is_polled) → d.walk ≡ p ∷ later
      → (is_polled ≡ false → is_any_marked d.processes ≡ false)
      → Yields (in_front (Item.Give p Origin.Event d.broadcast ∷ [])
      (scheduler_behind (record d { base = Base.Broadcast false; walk = later }))) next after
      → Yields (scheduler_behind d) next after
  received true p later next after bare walk ready y = grind arith
  received false p later next after bare walk ready y =
      let given : Scheduler ℕ =
      in_front (Item.Give p Origin.Event d.broadcast ∷ [])
      (scheduler_behind (record d { base = Base.Broadcast false; walk = later })) in
      let start : scheduler_behind d ≡ in_front (Item.Polls ∷ []) given = rw (bare.stack, bare.polls, bare.base, walk) refl in
      rw start (unpolled_yields given next after (ready refl) y)

  -- a poll round begins before the delivery
  pub polled_first : (is_polled : Bool) (left : List ℕ) → IsBare d (Base.Deliver is_polled) → is_polled ≡ false
      → is_any_marked d.processes ≡ true
      → (passed : List ℕ) × (numbers d.processes ≡ passed ++ left) × (from_marked d.processes passed ≡ [])
      → Yields (scheduler_behind d) None (scheduler_behind (record d { base = Base.Deliver true; polls = left }))
  polled_first true left bare unbegun marked walked = absurd (cc)
  polled_first false left bare unbegun marked walked =
      let given : Scheduler ℕ = in_front (Item.Deliver ∷ []) (scheduler_behind (record d { base = Base.Nothing; polls = [] })) in
      let start : scheduler_behind d ≡ in_front (Item.Polls ∷ []) given = rw (bare.stack, bare.polls, bare.base) refl in
      rw (start, bare.stack) (polls_begin _ left marked walked)

  -- and before the next receiver
  pub polled_receiver : (is_polled : Bool) (walk left : List ℕ) → IsBare d (Base.Broadcast is_polled) → is_polled ≡ false
      → d.walk ≡ walk → is_empty walk ≡ false → is_any_marked d.processes ≡ true
      → (passed : List ℕ) × (numbers d.processes ≡ passed ++ left) × (from_marked d.processes passed ≡ [])
      → Yields (scheduler_behind d) None (scheduler_behind (record d { base = Base.Broadcast true; polls = left }))
  polled_receiver true walk left bare unbegun is_walk some marked walked = absurd (cc)
  polled_receiver false [] left bare unbegun is_walk some marked walked = absurd (cc)
  polled_receiver false (p ∷ later) left bare unbegun is_walk some marked walked =
      let given : Scheduler ℕ =
      in_front (Item.Give p Origin.Event d.broadcast ∷ [])
      (scheduler_behind (record d { base = Base.Broadcast false; walk = later; polls = [] })) in
      let start : scheduler_behind d ≡ in_front (Item.Polls ∷ []) given = rw (bare.stack, bare.polls, bare.base, is_walk) refl in
      let after : scheduler_behind (record d { base = Base.Broadcast true; polls = left }) ≡ in_front (poll_items left) given =
      rw (bare.stack, is_walk) refl in
      rw (start, after) (polls_begin given left marked walked)

  -- the poll round reaches its next marked process
  pub polls_yield : (later : List ℕ) (p : ℕ) (next : Option (Job ℕ)) (after : Scheduler ℕ)
      → d.stack.items ≡ [] → from_marked d.processes d.polls ≡ p ∷ later
      → Yields (in_front (Item.PollOne p ∷ []) (scheduler_behind (record d { polls = later }))) next after
      → Yields (scheduler_behind d) next after
  polls_yield later p next after bare first y =
      let s = scheduler_behind (record d { polls = [] }) in
      let start : scheduler_behind d ≡ in_front (poll_items d.polls) s = rw bare refl in
      let left : in_front (Item.PollOne p ∷ []) (scheduler_behind (record d { polls = later })) ≡ in_front (poll_items (p ∷ later)) s =
      rw bare refl in
      rw start (
      yields_after (in_front (poll_items d.polls) s) (in_front (poll_items (from_marked d.processes d.polls)) s) next after
      (unmarked_pass s d.polls) (rw first (rw left at y))
      )

  -- no process is marked any more
  pub polls_end : (left : List ℕ) {ready : Option NextJob} {buffer : Stimulus} {after : SchedulerFields}
      → d.stack.items ≡ [] → None ≡ slice_get (from_marked d.processes d.polls) 0 → left ≡ drop 1 (from_marked d.processes d.polls)
      → FindsJob (scheduler_behind (record d { polls = left })) ready buffer after
      → FindsJob (scheduler_behind d) ready buffer after
  polls_end left bare none walked f =
      let all = none_first (from_marked d.processes d.polls) (sym none) in
      let over : left ≡ [] = rw all at walked in
      let s = scheduler_behind (record d { polls = [] }) in
      let start : scheduler_behind d ≡ in_front (poll_items d.polls) s = rw bare refl in
      record {
        yields =
            rw start (
            yields_after (in_front (poll_items d.polls) s) (in_front (poll_items (from_marked d.processes d.polls)) s) _ _
            (unmarked_pass s d.polls) (rw all (rw over at f.yields))
            );
        holds = f.holds;
        front = f.front;
        order = f.order;
      }

pub told_apart : (origin : Origin) (kept : Kept) (other : Stimulus) → is_apart origin ≡ true → told origin kept other ≡ other
told_apart origin kept other apart = grind arith

-- what is found from one scheduler is found from each that leads there
pub finds_from : {s t : Scheduler ℕ} {ready : Option NextJob} {buffer : Stimulus} {after : SchedulerFields}
    → (Yields s (option_map (λ r. job_in r (kept_in after) buffer) ready) (scheduler_behind after)
    → Yields t (option_map (λ r. job_in r (kept_in after) buffer) ready) (scheduler_behind after))
    → FindsJob s ready buffer after → FindsJob t ready buffer after
finds_from leads f = record { yields = leads f.yields; holds = f.holds; front = f.front; order = f.order }

pub finds_next : {s : Scheduler ℕ} {ready : Option NextJob} {buffer : Stimulus} {after : SchedulerFields}
    → job s ≡ None → FindsJob (after_front s) ready buffer after → FindsJob s ready buffer after
finds_next {s} none f = record { yields = yields_next s _ _ none f.yields; holds = f.holds; front = f.front; order = f.order }

pub finds_after : {s : Scheduler ℕ} {ready : Option NextJob} {stimulus buffer : Stimulus} {between after : SchedulerFields}
    → FindsJob s None stimulus between → FindsJob (scheduler_behind between) ready buffer after → FindsJob s ready buffer after
finds_after {s} {between = between} first f = finds_from (yields_after s (scheduler_behind between) _ _ first.yields) f
