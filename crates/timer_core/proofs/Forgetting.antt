-- A process's timers are removed from the list one by one.
use Rattle.timer_core.proofs.Words.{◌≡◌, ℕ, ◌+◌, Bool, not, ◌&&◌, ◌||◌, List, [], ◌∷◌, refl, arith, nat_lt, filter, Pid, Timer, IsNamed, is_timer, is_event_timer_of, is_callback_timer_of, Timers}
use Rattle.timer_core.proofs.LinkLemmas.{AllNamed}

abbrev number_of : Timer → ℕ
number_of (Timer.Event p t) = t
number_of (Timer.Callback p c) = c

abbrev pub below : (Timer → Bool) → ℕ → Timer → Bool
below test n t = test t && nat_lt (number_of t) n

module _ (out : Timer → Bool) where
  abbrev left : List Timer → List Timer
  left list = filter (λ t. not (out t)) list

  abbrev pub without : Timers → Timers
  without timers = record timers { armed = left timers.armed }

module _ (test : Timer → Bool) where
  left_all : (list : List Timer) → list ≡ left (below test 0) list
  left_all [] = refl
  left_all (t ∷ later) = grind (arith, left_all later)

  pub without_none : (timers : Timers) → timers ≡ without (below test 0) timers
  without_none timers = grind (arith, left_all)

module _ (out all : Timer → Bool) where
  left_same : ((t : Timer) → IsNamed t → out t ≡ all t) → (list : List Timer) → AllNamed list → left out list ≡ left all list
  left_same same [] h = refl
  left_same same (t ∷ later) h = rw (same t h.0, left_same same later h.1)

  pub without_same : ((t : Timer) → IsNamed t → out t ≡ all t) → (timers : Timers) → AllNamed timers.armed
      → without out timers ≡ without all timers
  without_same same timers h = grind (arith, left_same)

  module _ (more : Timer → Bool) (both : (t : Timer) → (out t || more t) ≡ all t) where
    left_more : (list : List Timer) → left more (left out list) ≡ left all list
    left_more [] = refl
    left_more (t ∷ later) = grind (arith, left_more later)

    pub without_more : (timers : Timers) → without more (without out timers) ≡ without all timers
    without_more timers = grind (arith, left_more)

module _ (p : ℕ) (t : Timer) where
  pub all_events : IsNamed t → below (is_event_timer_of p) 8 t ≡ is_event_timer_of p t
  all_events h = grind arith

  pub all_callbacks : IsNamed t → below (is_callback_timer_of p) 4 t ≡ is_callback_timer_of p t
  all_callbacks h = grind arith

module _ (p : Pid) (n : ℕ) (t : Timer) where
  pub one_event : (below (is_event_timer_of p.0) n t || is_timer (Timer.Event p n) t) ≡ below (is_event_timer_of p.0) (n + 1) t
  one_event = grind arith

  pub one_callback : (below (is_callback_timer_of p.0) n t || is_timer (Timer.Callback p n) t) ≡ below (is_callback_timer_of p.0) (n + 1) t
  one_callback = grind arith
