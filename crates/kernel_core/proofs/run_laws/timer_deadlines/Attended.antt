-- No timer event is early or lost: at each step the machine's timers follow the ledger.
use Rattle.std.proofs.Common.{◌≡◌, ℕ, true, false, ◌||◌, List, [], ◌∷◌, ◌++◌, ◌+◌, refl, arith, nat_le, ◌≤◌, subst, nat_lt, Bool, ◌&&◌, ◌==◌, append_assoc, map, slice_get}
use Rattle.kernel_core.specs.Laws.TimerLaws.{is_ripe, ripe_by, is_number}
use Rattle.kernel_core.proofs.Totals.{total-none}
use Rattle.kernel_core.proofs.Common.{TimersAreKept, with_more_work, decide, list_any, Stimulus, Event, Item, Timer, Timers, is_due, Machine, Entry, list_all, has_ended, clock_after, ticks_in, fold-append, all_timers, standing, is_timer, Config, is_bootable, is_at_rest, at_start, is_application, range_with_len, Origin, Scheduler, list_any-append, Call, after_call, EXITED, number_event, Queued, numbers, after_item, delivery}
use Rattle.kernel_core.proofs.run_laws.Changes.{is_regular, carried-regular, KeptByCalls, kept_by_call, all-more, all-append, all-mapped, none-mapped, serve-untouched, is_turn, carried-any, after-any}
use Rattle.kernel_core.proofs.run_laws.timer_deadlines.Balanced.{is_lawful, plain-cancelled, turn-follows, Balanced, less-balanced, in_wait, carried-count, carried-same, serve-fair, after-count}
use Rattle.kernel_core.proofs.run_laws.timer_deadlines.MovedTimers.{after-clock, OwnTimer, own_timer, cell_names, armed-names, zero-names, zero-cells, after-moves}
use Rattle.kernel_core.proofs.run_laws.timer_deadlines.Ledger.{ledger-turn, timer_ledger, timer_events-ledger, ledger-other, standing-ledger}
use Rattle.kernel_core.proofs.run_laws.event_order.Runs.{Known, FrontAgrees, nothing_known, told, Keeps, Taken, taking, taken, facing, is_quiet_item, carried, entry_of, with_turn, Cases, kernel_carried, Ran, at_prefixes, at_rest}
use Rattle.kernel_core.proofs.run_laws.event_order.AcceptedEvents.{ends_in, ended-more}
use Rattle.kernel_core.proofs.run_laws.event_order.WaitingEvents.{nothing_queued, to_all}
use Rattle.kernel_core.proofs.run_laws.event_order.Sound.{Sound, IsInOrder, sound_cases, boot-sound}
use Rattle.kernel_core.proofs.run_laws.timer_deadlines.Watched.{Watched, rest-not_due, watched-after, watched-carried, watched-input, watched-serve}
use Rattle.kernel_core.proofs.run_laws.event_order.InPlace.{is_give_exit, is_exit_turn}

-- Nobody gets p's EXITED while p lives.

module _ (p : ℕ) where
  -- p gets EXIT
  abbrev dooms : Item → Bool
  dooms item = is_give_exit p item || is_exit_turn p item

  abbrev is_doomed : List Item → Bool
  is_doomed agenda = list_any (dooms) agenda

  -- etimer gets p's EXITED
  abbrev is_farewell : Item → Bool
  is_farewell (Item.Give q origin (Stimulus.Event event)) = q == 0 && (event.code == EXITED && is_number p event.payload)
  is_farewell _ = false

  abbrev has_farewell : List Item → Bool
  has_farewell agenda = list_any (is_farewell) agenda

module _ (p : ℕ) where
  no_farewell-broadcast : (ns : List ℕ) (event : Event) → (event.code == EXITED) ≡ false
      → has_farewell p (delivery ns (to_all event)) ≡ false
  no_farewell-broadcast [] event h = refl
  no_farewell-broadcast (n ∷ ns) event h = grind (decide, no_farewell-broadcast ns event h)

  no_farewell-delivery : (ns : List ℕ) (events : List (Queued Bool)) → list_all is_lawful events ≡ true
      → has_farewell p (delivery ns (slice_get events 0)) ≡ false
  no_farewell-delivery ns (Queued.To q event ∷ events) h = grind decide
  no_farewell-delivery ns (Queued.ToAll event ∷ events) h = no_farewell-broadcast ns event (grind arith)
  no_farewell-delivery ns _ h = refl

-- if p isn't doomed afterwards, it wasn't before
not-before : (a b : Bool) → (a ≡ true → b ≡ true) → b ≡ false → a ≡ false
not-before = grind decide

module _ (p : ℕ) where
  carried-doomed : (item : Item) (s : Scheduler Bool) → is_quiet_item item ≡ true
      → is_doomed p (after_item item s).agenda ≡ false → is_doomed p (item ∷ s.agenda) ≡ false
  carried-doomed = grind (decide, carried-any)

  carried-farewell : (item : Item) (s : Scheduler Bool) → list_all is_lawful s.events ≡ true
      → has_farewell p (item ∷ s.agenda) ≡ false → has_farewell p (after_item item s).agenda ≡ false
  carried-farewell Item.Deliver s n h =
      rw (
        list_any-append (is_farewell p) (delivery (numbers s.processes) (slice_get s.events 0)) s.agenda,
        no_farewell-delivery p (numbers s.processes) s.events n,
      ) h
  carried-farewell item s n h = grind (decide, list_any-append, none-mapped)

  no_farewell-others : (r : ℕ) (ns : List ℕ) → (r == p) ≡ false
      → has_farewell p (map (λ n. Item.Give n Origin.Synch (Stimulus.Event (number_event EXITED r))) ns) ≡ false
  no_farewell-others r [] h = refl
  no_farewell-others r (n ∷ ns) h = grind (decide, no_farewell-others r ns h)

  after-doomed : (call : Call) (q : ℕ) (m : Machine) → is_doomed p (after_call call q m).scheduler.agenda ≡ false
      → is_doomed p m.scheduler.agenda ≡ false
  after-doomed call q m h =
      not-before (is_doomed p m.scheduler.agenda) (is_doomed p (after_call call q m).scheduler.agenda) (after-any (dooms p) call q m) h

  -- p's EXITED is sent only if p ends or is doomed
  after-farewell : (call : Call) (q : ℕ) (origin : Origin) (stimulus : Stimulus) (m : Machine)
      → ends_in p (Entry.Turn (record { 0 = q }) origin stimulus call) ≡ false → is_doomed p (after_call call q m).scheduler.agenda ≡ false
      → has_farewell p m.scheduler.agenda ≡ false → has_farewell p (after_call call q m).scheduler.agenda ≡ false
  after-farewell Call.Exit q origin stimulus m n d h = grind (decide, append_assoc, list_any-append, no_farewell-others)
  after-farewell (Call.Kill r) q origin stimulus m n d h = grind (decide, append_assoc, list_any-append, no_farewell-others)
  after-farewell call q origin stimulus m n d h = grind arith

-- The clock, the names of the timers, and what waits.

pub record Steady (m : Machine) (X : List Entry) : Type 0 where
  pub clock : m.clock ≡ clock_after X
  pub names : cell_names m.timers.cells ≡ all_timers
  pub plain : list_all is_lawful m.scheduler.events ≡ true
  pub regular : list_all is_regular m.scheduler.agenda ≡ true

clock-more : (X : List Entry) (e : Entry) → clock_after (X ++ e ∷ []) ≡ clock_after X + ticks_in e
clock-more = grind (decide, fold-append)

after-plain : KeptByCalls (λ events. list_all is_lawful events ≡ true)
after-plain = record {
  posted = grind (decide, all-more);
  cancelled = λ test events h. rw (plain-cancelled test events) h;
}

module _ (t : Taken) where
  watched-turn : Watched (taking t) → Watched (taken t)
  watched-turn h =
      watched-after t.q (with_more_work t.m)
      (grind decide) t.call

  steady-turn : Steady (taking t) t.X → Steady (taken t) (with_turn t)
  steady-turn = grind (decide, after-clock, clock-more, armed-names, kept_by_call, after-plain, all-mapped, all-append)

module _ (o : OwnTimer) where
  record Spared (agenda : List Item) (X : List Entry) : Type 0 where
    alive : has_ended o.p X ≡ false
    safe : is_doomed o.p agenda ≡ false

  abbrev IsTimely : List Entry → Type 0
  IsTimely X = (timer_ledger o nothing_known X).given ≤ ripe_by (clock_after X) (timer_ledger o nothing_known X).standing

  timely-other : (X : List Entry) (e : Entry) → is_turn e ≡ false → Keeps IsTimely X e
  timely-other = grind (decide, ledger-other, clock-more)

  module _ (known : Known) (m : Machine) (X : List Entry) where
    record Heeded : Type 0 where
      steady : Steady m X
      farewell : Spared m.scheduler.agenda X → has_farewell o.p m.scheduler.agenda ≡ false
      balanced : Balanced o (Spared m.scheduler.agenda X) m.timers m.clock (in_wait o m) (timer_ledger o known X)

    record Attended : Type 0 where
      sound : Sound o.p known m X
      watched : Watched m
      heeded : Heeded

  module _ (low : nat_le 4 o.p ≡ true) (high : nat_lt o.p 20 ≡ true) where
    module _ (t : Taken) where
      abbrev on : Machine
      on = with_more_work t.m

      alive-before : has_ended o.p (with_turn t) ≡ false → (has_ended o.p t.X || ends_in o.p (entry_of t)) ≡ false
      alive-before alive = rw (ended-more o.p t.X (entry_of t)) at alive

      spared-before : Spared (taken t).scheduler.agenda (with_turn t) → Spared (taking t).scheduler.agenda t.X
      spared-before s =
          record {
            alive = grind (arith, alive-before s.alive);
            safe = grind
                (decide, after-doomed o.p t.call t.q on s.safe, alive-before s.alive);
          }

      heeded-turn : (known : Known) → FrontAgrees known (taken t).scheduler.agenda → Heeded (told (entry_of t) known) (taking t) t.X
          → Heeded known (taken t) (with_turn t)
      heeded-turn known front h = record {
        steady = steady-turn t h.steady;
        farewell = λ s. after-farewell o.p t.call t.q t.origin t.stimulus on (grind (arith, alive-before s.alive)) s.safe
            (h.farewell (spared-before s));
        balanced = rw (after-clock t.call t.q on, after-count o t.q on t.call, ledger-turn o known t h.steady.clock)
            (turn-follows o _ _ t (known o.p) (taken t).timers (timer_ledger o (told (entry_of t) known) t.X)
            (after-moves o t.q known on (grind decide) t.call front) (in_wait o on) spared-before
            (grind decide));
      }

      timely-turn : Heeded (told (entry_of t) nothing_known) (taking t) t.X → Keeps IsTimely t.X (entry_of t)
      timely-turn h timely =
          grind (decide, clock-more, ledger-turn)

    sound : Cases (Sound o.p) (Keeps (IsInOrder o.p))
    sound = sound_cases o.p low

    module _ (known : Known) (m : Machine) (X : List Entry) where
      heeded-carried : (item : Item) → is_quiet_item item ≡ true
          → Sound o.p known (facing item m) X → Heeded known (facing item m) X → Heeded known (carried item m) X
      heeded-carried item n sound h =
          let spared : Spared (carried item m).scheduler.agenda X → Spared (item ∷ m.scheduler.agenda) X =
          λ s. record { alive = s.alive; safe = carried-doomed o.p item m.scheduler n s.safe } in
          let lawful = h.steady.plain in
          let regular : is_regular item ≡ true = grind arith in
          record {
            steady = grind (decide, carried-regular, h.steady);
            farewell = λ s. carried-farewell o.p item m.scheduler lawful (h.farewell (spared s));
            balanced = less-balanced o _ _ m.clock (in_wait o (carried item m)) (in_wait o (facing item m)) m.timers
                (timer_ledger o known X)
                (carried-count o item m lawful regular)
                (λ s. (spared s, carried-same o item m lawful regular low (grind arith) sound.ordered (sound.place s.alive)))
                h.balanced;
          }

    attended_cases : Cases Attended (Keeps IsTimely)
    attended_cases = record {
      carried = λ known m X item n s h.
          record {
            sound = sound.carried known m X item n s h.sound;
            watched = watched-carried item m n s (grind arith) h.watched;
            heeded = heeded-carried known m X item n h.sound h.heeded;
          };
      served = λ known m X q origin event k h.
          let gone =
          subst (λ n. Heeded known n X) (kernel_carried q origin (Stimulus.Event event) m k)
          (heeded-carried known m X (Item.Give q origin (Stimulus.Event event)) refl h.sound h.heeded) in
          let fair = serve-fair o (Spared m.scheduler.agenda X) q event (λ s. grind decide) m in
          let same = (serve-untouched q event m).agenda in
          record {
            sound = sound.served known m X q origin event k h.sound;
            watched = watched-serve q origin event m h.watched;
            heeded = record {
              steady = grind decide;
              farewell = rw same gone.farewell;
              balanced = rw same
                  (rw same at (fair.balanced (timer_ledger o known X) gone.balanced));
            };
          };
      called_back = λ known m X q c h d.
          record {
            sound = sound.called_back known m X q c h.sound d.sound;
            watched = grind decide;
            heeded = grind (decide, d.heeded);
          };
      round = grind decide;
      turn = λ known t front h.
          record {
            sound = sound.turn known t front h.sound;
            watched = watched-turn t h.watched;
            heeded = heeded-turn t known front h.heeded;
          };
      told = λ t h. timely-turn t h.heeded;
      notes = grind decide;
      shown = λ known m X note h.
          record {
            sound = sound.shown known m X note h.sound;
            watched = grind (decide, h.watched);
            heeded = grind (decide, h.heeded, clock-more, ledger-other, ended-more);
          };
      noted = grind (decide, timely-other);
      other = grind (decide, timely-other);
      input = λ known m X input none h.
          record {
            sound = sound.input known m X input none h.sound;
            watched = watched-input input m h.watched;
            heeded = record {
              steady = grind (decide, clock-more, h.heeded.steady);
              farewell = grind decide;
              balanced = grind (decide, ledger-other, ended-more, h.heeded.balanced);
            };
          };
    }

  boot-attended : (c : Config) (known : Known) → nat_lt o.p 20 ≡ true → is_application c.apps o.p ≡ true
      → Attended known (at_start c).machine []
  boot-attended c known high a = record {
    sound = boot-sound o.p c known a;
    watched = grind decide;
    heeded = grind (decide, none-mapped, zero-names, all-mapped, zero-cells, total-none, range_with_len);
  }

  -- a timer on the list after its deadline is due
  due_listed : (clock : ℕ) (timers : Timers) (xs : List Timer) → is_due clock timers (own_timer o) ≡ true
      → list_any (is_timer (own_timer o)) xs ≡ true → list_any (is_due clock timers) xs ≡ true
  due_listed clock timers [] d h = grind decide
  due_listed clock timers (x ∷ xs) d h = grind (decide, due_listed clock timers xs)

  abbrev IsGivenAtRest : List Entry → Type 0
  IsGivenAtRest X =
      has_ended o.p X ≡ false → is_ripe (clock_after X) (standing X o.p o.t) ≡ true → (standing X o.p o.t).was_given ≡ true

  rest-given : (m : Machine) (X : List Entry) → is_at_rest m ≡ true → Attended nothing_known m X → IsGivenAtRest X
  rest-given = grind (decide, standing-ledger, nothing_queued, rest-not_due, due_listed)

abbrev mine : ℕ → ℕ → OwnTimer
mine p t = record { p = p; t = t }

module _ (run : Ran) (boots : is_bootable run.config ≡ true) where
  module _ (p : ℕ) (a : is_application run.config.apps p ≡ true) (t : ℕ) where
    high : nat_lt p 20 ≡ true
    high = grind decide

    cases : Cases (Attended (mine p t)) (Keeps (IsTimely (mine p t)))
    cases = attended_cases (mine p t) (grind arith) high

    boot : (known : Known) → Attended (mine p t) known (at_start run.config).machine []
    boot known = boot-attended (mine p t) run.config known high a

  pub timers-kept : TimersAreKept run.config.apps run.after.entries
  timers-kept = record {
    not_early = λ p a before later t e.
        rw (timer_events-ledger (mine p t) before, standing-ledger (mine p t) before)
        (at_prefixes (cases p a t) run (boot p a t) (omega arith) before later e);
    not_lost = λ p a before t. at_rest _ _ (cases p a t) (IsGivenAtRest (mine p t)) (rest-given (mine p t)) run (boot p a t) before;
  }
