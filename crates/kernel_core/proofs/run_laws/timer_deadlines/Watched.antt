-- While a timer is due, etimer is marked or its POLL is on the agenda.
use Rattle.std.proofs.Common.{◌≡◌, ℕ, Bool, true, false, ◌&&◌, ◌||◌, List, [], ◌∷◌, refl, ◌∙◌, arith, is_some, find, filter, if◌then◌else◌, ◌==◌}
use Rattle.process_core.specs.Processes.{is_any_marked, is_marked}
use Rattle.kernel_core.proofs.Common.{decide, list_any, Stimulus, Event, Origin, POLL, State, Item, Process, state_of, is_on_list, with_state, with_mark, without, Scheduler, in_front, Timer, Timers, is_due, Machine, scheduled, free_places, mark, serve, times, post_first_due, post_due, is_any_due, list_any-append, Call, Input, after_call, effect}
use Rattle.kernel_core.proofs.run_laws.Changes.{Changes, of_changes, times-keeps, carried-any, after-any, is_regular, state_of-seats, seats-with_state, seats-with_mark, seats-without}
use Rattle.kernel_core.proofs.run_laws.timer_deadlines.Balanced.{any-filter}
use Rattle.kernel_core.proofs.run_laws.timer_deadlines.MovedTimers.{is_timer_call, after-timers, after-clock}
use Rattle.kernel_core.proofs.run_laws.event_order.Runs.{facing, is_quiet_item, is_served, carried}

abbrev is_etimer_poll : Item → Bool
is_etimer_poll (Item.Give q origin (Stimulus.Event event)) = q == 0 && event.code == POLL
is_etimer_poll _ = false

abbrev is_polled : List Item → Bool
is_polled agenda = list_any is_etimer_poll agenda

abbrev is_watched : Scheduler Bool → Bool
is_watched s = is_marked 0 s.processes || is_polled s.agenda

-- etimer is on the list
abbrev is_home : List Process → Bool
is_home list = is_on_list (state_of 0 list)

abbrev is_timer_due : ℕ → Timers → Bool
is_timer_due clock timers = list_any (is_due clock timers) timers.armed

pub record Watched (m : Machine) : Type 0 where
  pub home : is_home m.scheduler.processes ≡ true
  pub due : is_timer_due m.clock m.timers ≡ true → is_watched m.scheduler ≡ true

marks-home : (list : List Process) → is_home list ≡ true → is_marked 0 (with_mark 0 true list) ≡ true
marks-home [] h = h
marks-home (x ∷ xs) h = grind (decide, marks-home xs)

module _ (q : ℕ) where
  marks-with_mark : (list : List Process) → is_marked 0 list ≡ true → is_marked 0 (with_mark q true list) ≡ true
  marks-with_mark [] h = h
  marks-with_mark (x ∷ xs) h = grind (decide, marks-with_mark xs)

  marks-without : (list : List Process) → (q == 0) ≡ false → is_marked 0 (without q list) ≡ is_marked 0 list
  marks-without [] n = refl
  marks-without (x ∷ xs) n = grind (decide, marks-without xs n)

  module _ (state : State) where
    marks-with_state : (list : List Process) → is_marked 0 (with_state q state list) ≡ is_marked 0 list
    marks-with_state [] = refl
    marks-with_state (x ∷ xs) = grind (decide, marks-with_state xs)

  module _ (mark : Bool) where
    marks-other : (list : List Process) → (q == 0) ≡ false → is_marked 0 (with_mark q mark list) ≡ is_marked 0 list
    marks-other [] n = refl
    marks-other (x ∷ xs) n = grind (decide, marks-other xs n)

    home-with_mark : (list : List Process) → is_home (with_mark q mark list) ≡ is_home list
    home-with_mark list = grind (decide, state_of-seats, seats-with_mark)

pub watched-carried : (item : Item) (m : Machine) → is_quiet_item item ≡ true → is_served item ≡ false
    → is_regular item ≡ true
    → Watched (facing item m) → Watched (carried item m)
watched-carried = grind (
  decide,
  state_of-seats,
  seats-with_state,
  seats-with_mark,
  seats-without,
  marks-with_state,
  marks-without,
  carried-any,
  marks-other,
)

watched-front : (xs : List Item) (m : Machine) → Watched m → Watched (scheduled (in_front xs) m)
watched-front = grind (decide, list_any-append)

some-find : (test : Timer → Bool) (xs : List Timer) → is_some (find test xs) ≡ list_any test xs
some-find test [] = refl
some-find test (x ∷ xs) = grind (decide, some-find test xs)

dropped : (keep : Timer → Bool) (m : Machine) → Watched m
    → Watched (record m { timers = record m.timers { armed = filter keep m.timers.armed } })
dropped = grind (decide, any-filter)

-- an item other than etimer's POLL is gone
pub without_item : (item : Item) (m : Machine) → is_etimer_poll item ≡ false → Watched (facing item m) → Watched m
without_item = grind decide

module _ (call : Call) (q : ℕ) (m : Machine) where
  -- a call that makes no timer due
  fewer : Watched m → (is_timer_due m.clock (after_call call q m).timers ≡ true → is_timer_due m.clock m.timers ≡ true)
      → Watched (after_call call q m)
  fewer h less =
      record {
        home = grind (decide, h.home, state_of-seats, seats-with_state, seats-with_mark);
        due = grind (decide, after-clock, marks-with_state, marks-with_mark, after-any);
      }

module _ (q : ℕ) (m : Machine) (h : Watched m) where
  pub watched-after : (call : Call) → Watched (after_call call q m)
  watched-after (Call.TimerSet u interval) = grind (decide, home-with_mark, marks-home)
  watched-after (Call.TimerRestart u) = grind (decide, home-with_mark, marks-home)
  watched-after (Call.TimerReset u) = grind (decide, watched-front, home-with_mark, marks-home)
  watched-after (Call.CallbackSet c interval) = grind (decide, watched-front, home-with_mark, marks-home)
  watched-after (Call.TimerStop u) = grind (decide, fewer, any-filter)
  watched-after (Call.CallbackStop c) = grind (decide, fewer, any-filter)
  watched-after call = plain call (grind arith)
    where
      plain : (call : Call) → is_timer_call call ≡ false → Watched (after_call call q m)
      plain call n = fewer call q m h (λ d. rw (after-timers call q m n) at d)

pub watched-input : (input : Input) (m : Machine) → Watched m → Watched (effect input (record m { work = 0 }))
watched-input = grind (decide, state_of-seats, seats-with_mark, marks-home, marks-with_mark, watched-front)

-- at rest no timer is due
unmarked : (list : List Process) → is_any_marked list ≡ false → is_marked 0 list ≡ false
unmarked [] h = refl
unmarked (x ∷ xs) h = grind (arith, h, unmarked xs)

module _ (m : Machine) where
  -- after its POLL nothing is due, or etimer is marked again
  watched-due : is_home m.scheduler.processes ≡ true → Watched (post_due m)
  watched-due home = go (is_any_due after) (some-find (is_due after.clock after.timers) after.timers.armed)
    where
      after : Machine
      after = times (free_places m) post_first_due m

      still : is_home after.scheduler.processes ≡ true
      still = times-keeps (λ x. is_home x.scheduler.processes ≡ true) post_first_due (grind decide)
          (free_places m) m home

      go : (b : Bool) → b ≡ is_timer_due after.clock after.timers → Watched (if b then mark 0 after else after)
      go true e = record {
        home = home-with_mark 0 true after.scheduler.processes ∙ still;
        due =
            λ d. rw (marks-home after.scheduler.processes still) refl;
      }
      go false e = record { home = still; due = λ d. absurd (grind (arith, e, d)) }

  pub rest-not_due : m.scheduler.agenda ≡ [] → is_any_marked m.scheduler.processes ≡ false → Watched m
      → is_timer_due m.clock m.timers ≡ false
  rest-not_due = grind (decide, unmarked)

module _ (q : ℕ) where
  changes-watched : (event : Event) → Changes (λ old new. Watched old → Watched new) q event
  changes-watched = grind (decide, dropped, marks-with_mark, state_of-seats, seats-with_mark)

  pub watched-serve : (origin : Origin) (event : Event) (m : Machine)
      → Watched (facing (Item.Give q origin (Stimulus.Event event)) m) → Watched (serve q event m)
  watched-serve origin event m h = go (q == 0 && event.code == POLL) refl
    where
      go : (b : Bool) → (q == 0 && event.code == POLL) ≡ b → Watched (serve q event m)
      go true e =
          let etimer : (q == 0) ≡ true = grind arith in
          let polled : (event.code == POLL) ≡ true = grind (arith, e) in
          rw (etimer, polled) (watched-due m h.home)
      go false e = of_changes (changes-watched event) m (without_item (Item.Give q origin (Stimulus.Event event)) m e h)
