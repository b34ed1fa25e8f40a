-- The machine's timers agree with the ledger.
use Rattle.std.proofs.Common.{◌≡◌, ℕ, true, false, not, List, [], ◌∷◌, refl, map, filter, nat_le, nat_lt, Bool, ◌&&◌, ◌||◌, arith, Option, Some, ◌==◌, ◌+◌, find, ◌≤◌}
use Rattle.kernel_core.specs.Laws.TimerLaws.{arms, is_number, is_ripe, stops}
use Rattle.timer_core.specs.Timers.{cell_of}
use Rattle.kernel_core.proofs.Common.{list_any, decide, Timer, is_timer, Timers, is_armed, Call, Reply, Machine, with_timers, expiries_cancelled, after_call, is_done, deed, Stimulus, is_timer_event, list_all, Event, TIMER, Queued, Item, is_due, first_due, without_callback_timers, cancelled_if, serve, expiry_of, post_expiry, EXITED, delivery}
use Rattle.kernel_core.proofs.run_laws.event_order.WaitingEvents.{to_all}
use Rattle.kernel_core.proofs.run_laws.event_order.InPlace.{is_silent, is_ordered, stands, given-running}
use Rattle.kernel_core.specs.Code.Totals.{total}
use Rattle.kernel_core.proofs.Totals.{total-append, total-none}
use Rattle.kernel_core.proofs.run_laws.Changes.{farewells-same, behind, kept_by_call, Changes, of_changes, all-more, all-cancelled, is_regular}
use Rattle.kernel_core.proofs.run_laws.event_order.Runs.{Taken, facing, carried}
use Rattle.std.proofs.lemmas.Map.Views.{any-filter_same}
use Rattle.kernel_core.proofs.run_laws.timer_deadlines.MovedTimers.{Moves, OwnTimer, cell_names, own_timer, stopped-other, stopped-own}
use Rattle.kernel_core.proofs.run_laws.timer_deadlines.Ledger.{Ledger, ledger_then, one_if}

-- what may wait in the queue: no EXITED, and no TIMER for all
abbrev pub is_lawful : Queued Bool → Bool
is_lawful (Queued.To q event) = not (event.code == EXITED)
is_lawful (Queued.ToAll event) = not (event.code == EXITED || event.code == TIMER)
is_lawful (Queued.Expiry q c x) = true

pub any-filter : (test keep : Timer → Bool) (xs : List Timer) → list_any test (filter keep xs) ≡ true → list_any test xs ≡ true
any-filter test keep [] h = h
any-filter test keep (x ∷ xs) h = grind (decide, any-filter test keep xs)

kept-filter : (test keep : Timer → Bool) (xs : List Timer) → ((x : Timer) → test x ≡ true → keep x ≡ true)
    → list_any test (filter keep xs) ≡ list_any test xs
kept-filter test keep xs k = any-filter_same test keep true k xs

pub plain-cancelled : (test : ℕ → ℕ → Bool) (events : List (Queued Bool))
    → list_all is_lawful (map (cancelled_if test) events) ≡ list_all is_lawful events
plain-cancelled test events = all-cancelled is_lawful test (λ event. grind arith) events

module _ (clock : ℕ) (timers : Timers) (timer : Timer) where
  found : (xs : List Timer) → find (is_due clock timers) xs ≡ Some timer
      → is_due clock timers timer ≡ true
  found [] e = cc
  found (x ∷ xs) e = grind (decide, found xs)

  listed : (xs : List Timer) → find (is_due clock timers) xs ≡ Some timer
      → list_any (is_timer timer) xs ≡ true
  listed [] e = cc
  listed (x ∷ xs) e = grind (decide, listed xs)

module _ (o : OwnTimer) where
  abbrev timer_for : ℕ → Stimulus → ℕ
  timer_for q stimulus = one_if (q == o.p && is_timer_event o.t stimulus)

  abbrev due_in : Item → ℕ
  due_in (Item.Give q origin stimulus) = timer_for q stimulus
  due_in (Item.Turn q origin stimulus) = timer_for q stimulus
  due_in _ = 0

  abbrev count_items : List Item → ℕ
  count_items items = total due_in items

  abbrev queued_one : Queued Bool → ℕ
  queued_one (Queued.To q event) = timer_for q (Stimulus.Event event)
  queued_one _ = 0

  abbrev count_events : List (Queued Bool) → ℕ
  count_events events = total queued_one events

  abbrev pub in_wait : Machine → ℕ
  in_wait m = count_items m.scheduler.agenda + count_events m.scheduler.events

  -- while p is spared, the last arming led to a TIMER event, one waits, or the timer is on the list
  pub record Balanced (Spared : Type 0) (timers : Timers) (clock waiting : ℕ) (ledger : Ledger) : Type 0 where
    pub cell : nat_le o.t 7 ≡ true → cell_of (own_timer o) timers ≡ ledger.standing.cell
    -- only a timer that a call can name is on the list
    pub named : is_armed (own_timer o) timers ≡ true → nat_le o.t 7 ≡ true
    pub set : is_armed (own_timer o) timers ≡ true → ledger.standing.is_armed ≡ true
    pub count : waiting + ledger.given ≤ ledger.standing.ripe + one_if
        (not (is_armed (own_timer o) timers) && is_ripe clock ledger.standing)
    pub awaits : Spared → ledger.standing.is_armed ≡ true
        → (is_armed (own_timer o) timers || (nat_lt 0 waiting || ledger.standing.was_given)) ≡ true

  count-cancelled : (test : ℕ → ℕ → Bool) (events : List (Queued Bool))
      → count_events (map (cancelled_if test) events) ≡ count_events events
  count-cancelled test [] = refl
  count-cancelled test (item ∷ events) = grind (decide, count-cancelled test events)

  broadcast-count : (ns : List ℕ) (event : Event) → is_lawful (Queued.ToAll event) ≡ true
      → count_items (delivery ns (to_all event)) ≡ 0
  broadcast-count [] event h = refl
  broadcast-count (n ∷ ns) event h = grind (decide, broadcast-count ns event h)

  module _ (item : Item) (m : Machine) (lawful : list_all is_lawful m.scheduler.events ≡ true) (regular : is_regular item ≡ true) where
    pub carried-count : in_wait (carried item m) ≤ in_wait (facing item m)
    carried-count = grind (decide, total-append, total-none, broadcast-count)

    -- none is lost while p lives
    pub carried-same : nat_le 4 o.p ≡ true → is_silent item ≡ true → is_ordered (item ∷ m.scheduler.agenda) ≡ true
        → stands o.p (behind item m.scheduler) ≡ true → in_wait (carried item m) ≡ in_wait (facing item m)
    carried-same = grind (decide, total-append, total-none, broadcast-count, given-running)

  module _ (Spared : Type 0) where
    pub record Fair (old new : Machine) : Type 0 where
      pub clock : new.clock ≡ old.clock
      pub names : cell_names new.timers.cells ≡ cell_names old.timers.cells
      pub plain : list_all is_lawful old.scheduler.events ≡ true → list_all is_lawful new.scheduler.events ≡ true
      pub balanced : (ledger : Ledger) → Balanced Spared old.timers old.clock (in_wait old) ledger
          → Balanced Spared new.timers new.clock (in_wait new) ledger

    fair-then : (a b c : Machine) → Fair a b → Fair b c → Fair a c
    fair-then = grind decide

    module _ (timer : Timer) where
      expiry_count : queued_one (expiry_of timer) ≡ one_if (is_timer (own_timer o) timer)
      expiry_count = grind decide

      -- a due timer of p is posted and leaves the list
      expired-fair : (m : Machine) → first_due m.clock m.timers ≡ Some timer
          → Fair m (post_expiry (Some timer) m)
      expired-fair m e = record {
        clock = refl;
        names = refl;
        plain = grind (decide, all-more);
        balanced = grind (decide, found, listed, stopped-own, stopped-other, total-append, expiry_count);
      }

    module _ (q : ℕ) (event : Event) (spares : Spared → (q == 0 && (event.code == EXITED && is_number o.p event.payload)) ≡ false) where
      pub serve-fair : (m : Machine) → Fair m (serve q event m)
      serve-fair = of_changes changes
        where
          changes : Changes Fair q event
          changes =
              record {
                same = grind decide;
                chained = fair-then;
                expired = expired-fair;
                timers_gone = λ n m z k e.
                    let other : Spared → (n == o.p) ≡ false = λ s. grind decide in
                    grind (decide, any-filter, kept-filter);
                callbacks_gone = λ n m.
                    let a = with_timers (without_callback_timers n m.timers) m in
                    fair-then m a (expiries_cancelled (λ r c. r == n) a)
                    (grind (decide, kept-filter))
                    (grind (
                      decide,
                      plain-cancelled (λ r c. r == n) a.scheduler.events,
                      count-cancelled (λ r c. r == n) a.scheduler.events,
                    ));
                posted = grind (decide, all-more, total-append);
                devices = grind decide;
                marked = grind decide;
              }

  module _ (q : ℕ) (m : Machine) where
    after-items_count : (call : Call) → count_items (after_call call q m).scheduler.agenda ≡ count_items m.scheduler.agenda
    after-items_count Call.Exit = grind (decide, farewells-same count_items q (grind decide))
    after-items_count (Call.Kill r) = grind (decide, farewells-same count_items r (grind decide))
    after-items_count (Call.PostSynch r code payload) = grind decide
    after-items_count call = grind decide

    pub after-count : (call : Call) → in_wait (after_call call q m) ≡ in_wait m
    after-count call =
        omega (
          arith,
          after-items_count call,
          kept_by_call {P = λ events. count_events events ≡ count_events m.scheduler.events} (record {
            posted = grind (decide, total-append);
            cancelled = λ test events h. rw (count-cancelled test events) h;
          }) call q m refl,
        )

  module _ (Spared Left : Type 0) where
    pub less-balanced : (clock v w : ℕ) (timers : Timers) (ledger : Ledger) → v ≤ w → (Left → Spared × (v ≡ w))
        → Balanced Spared timers clock w ledger → Balanced Left timers clock v ledger
    less-balanced = grind decide

    -- a turn with a call; k is its reply
    module _ (t : Taken) (k : Option Reply) (new : Timers) (ledger : Ledger)
        (moves : Moves o t.q t.m.clock t.call k t.m.timers new) (w : ℕ) where
      pub turn-follows : (Left → Spared) → Balanced Spared t.m.timers t.m.clock (timer_for t.q t.stimulus + w) ledger
          → Balanced Left new t.m.clock w (ledger_then o t k ledger)
      turn-follows spares h = go (t.q == o.p) (is_done k) (arms o.t (deed t.call)) (stops o.t (deed t.call)) refl refl refl refl
        where
          go : (same d a s : Bool) → (t.q == o.p) ≡ same → is_done k ≡ d → arms o.t (deed t.call) ≡ a → stops o.t (deed t.call) ≡ s
              → Balanced Left new t.m.clock w (ledger_then o t k ledger)
          go false d a s b e f i = grind decide
          go true true true s b e f i = grind decide
          go true true false true b e f i = grind decide
          go true true false false b e f i = grind decide
          go true false a s b e f i = grind decide
