-- The events accepted for p are those delivered, in order, and those that wait.
use Rattle.kernel_core.proofs.run_laws.Changes.{is_turn, seats-with_mark, serve-untouched, effect-keeps}
use Rattle.std.proofs.Common.{◌≡◌, ℕ, ◌+◌, true, false, List, [], ◌∷◌, ◌++◌, refl, arith, append-nil, map, nat_le, append_assoc, zero, suc, nat_lt}
use Rattle.kernel_core.proofs.Common.{EventsArriveInOrder, list_any, decide, Event, Entry, has_ended, given_events, accepted_events, Item, Machine, is_application, range_with_len, Config, at_start, with_more_work, is_at_rest}
use Rattle.kernel_core.proofs.run_laws.event_order.Runs.{Known, nothing_known, told, FrontAgrees, Taken, taking, taken, entry_of, with_turn, Cases, Keeps, Ran, at_prefixes, at_rest}
use Rattle.kernel_core.proofs.run_laws.event_order.AcceptedEvents.{accepted-more, accepted_with, accepted_with-none, ended-more, given-more, given_in}
use Rattle.kernel_core.proofs.run_laws.event_order.InPlace.{after-ordered, after-stands, carried-ordered, carried-stands, is_covered, is_ordered, is_start, stands, starts-ordered}
use Rattle.kernel_core.proofs.run_laws.event_order.WaitingEvents.{after-queued, after-waits, all_waiting, carried-waiting, nothing_queued, serve-served, waits}

module _ (p : ℕ) where
  abbrev pub IsInOrder : List Entry → Type 0
  IsInOrder X = has_ended p X ≡ false → (waiting : List Event) × (given_events X p ++ waiting ≡ accepted_events p X)

  no_given : (e : Entry) → is_turn e ≡ false → given_in p e ≡ []
  no_given = grind decide

  starts-covered : (ns : List ℕ) → is_covered p (map (λ n. Item.Start n) ns) ≡ true
  starts-covered [] = refl
  starts-covered (n ∷ ns) = starts-covered ns

  starts-waits : (ns : List ℕ) → waits p (map (λ n. Item.Start n) ns) ≡ []
  starts-waits [] = refl
  starts-waits (n ∷ ns) = starts-waits ns

  starts-all : (n from : ℕ) → nat_le from p ≡ true → nat_lt p (from + n) ≡ true
      → list_any (is_start p) (map (λ k. Item.Start k) (range_with_len from n)) ≡ true
  starts-all zero from a b = grind decide
  starts-all (suc n) from a b = grind (decide, starts-all n (suc from))

  -- The first reply counts as made; the replies further down make no difference.
  pub record Sound (known : Known) (m : Machine) (X : List Entry) : Type 0 where
    pub ordered : is_ordered m.scheduler.agenda ≡ true
    pub place : has_ended p X ≡ false → stands p m.scheduler ≡ true
    pub tally : has_ended p X ≡ false → accepted_with known p X ≡ given_events X p ++ all_waiting p m.scheduler

  pub boot-sound : (c : Config) (known : Known) → is_application c.apps p ≡ true → Sound known (at_start c).machine []
  boot-sound = grind (decide, starts-ordered, starts-all, starts-covered, starts-waits)

  module _ (X : List Entry) where
    module _ (e : Entry) where
      order-other : is_turn e ≡ false → Keeps IsInOrder X e
      order-other n i = λ alive. (
        (i (grind (arith, ended-more p X e))).0,
        grind (
          decide,
          given-more,
          append-nil,
          accepted_with-none,
          accepted-more nothing_known p X e,
        ),
      )

      still_alive : has_ended p (X ++ e ∷ []) ≡ false → has_ended p X ≡ false
      still_alive = grind (decide, ended-more)

    abbrev IsAllGiven : Type 0
    IsAllGiven = has_ended p X ≡ false → given_events X p ≡ accepted_events p X

    rest_given : (m : Machine) → is_at_rest m ≡ true → Sound nothing_known m X → IsAllGiven
    rest_given m e h = λ alive.
        let none : m.scheduler.agenda ≡ [] = grind decide in
        let empty : m.scheduler.events ≡ [] = grind (decide, nothing_queued) in
        grind (decide, append-nil, accepted_with-none)

  module _ (t : Taken) where
    abbrev on : Machine
    on = with_more_work t.m

    abbrev e : Entry
    e = entry_of t

    turn_sound : (known : Known) → FrontAgrees known (taken t).scheduler.agenda → Sound (told e known) (taking t) t.X
        → Sound known (taken t) (with_turn t)
    turn_sound known agrees h = record {
      ordered = after-ordered t.q on (grind decide) t.call;
      place = λ alive. after-stands p t.q on t.origin t.stimulus (h.place (still_alive t.X e alive)) t.call
          (grind (arith, ended-more p t.X e));
      tally = λ alive.
          rw (
            accepted-more known p t.X e,
            given-more p t.X e,
            (h.tally (still_alive t.X e alive)),
            after-waits p t.q on t.call,
            after-queued known p t.q on t.call agrees,
          ) (simp append_assoc);
    }

    turn_order : Sound (told e nothing_known) (taking t) t.X → Keeps IsInOrder t.X e
    turn_order h old = λ alive. (
      all_waiting p t.m.scheduler,
      grind (
        decide,
        accepted_with-none,
        accepted-more nothing_known p t.X e,
        append-nil,
        given-more,
        append_assoc,
        h.tally (still_alive t.X e alive),
      ),
    )

  pub sound_cases : nat_le 4 p ≡ true → Cases Sound (Keeps IsInOrder)
  sound_cases a = record {
    carried = grind (decide, carried-ordered, carried-stands, carried-waiting);
    served = λ known m X q origin event k h. grind (decide, serve-untouched q event m, serve-served p a q event m);
    called_back = grind decide;
    round = grind decide;
    turn = λ known t agrees h. turn_sound t known agrees h;
    told = turn_order;
    notes = grind decide;
    shown = grind (decide, still_alive, given-more, append-nil, accepted-more);
    noted = grind (decide, order-other);
    other = grind (decide, order-other);
    input = grind (decide, still_alive, given-more, no_given, append-nil, accepted-more, effect-keeps, seats-with_mark);
  }

module _ (run : Ran) where
  module _ (p : ℕ) (a : is_application run.config.apps p ≡ true) where
    cases : Cases (Sound p) (Keeps (IsInOrder p))
    cases = sound_cases p (grind arith)

    boot : (known : Known) → Sound p known (at_start run.config).machine []
    boot known = boot-sound p run.config known a

  pub events-kept : EventsArriveInOrder run.config.apps run.after.entries
  events-kept = record {
    in_order = λ p a. at_prefixes (cases p a) run (boot p a) (λ alive. ([], refl));
    none_lost = λ p a. at_rest _ _ (cases p a) (IsAllGiven p) (λ m X. rest_given p X m) run (boot p a);
  }
