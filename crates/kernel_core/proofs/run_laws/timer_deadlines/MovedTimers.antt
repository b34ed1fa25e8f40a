-- Calls and timers: arming puts a timer on the list with its new cell, a stop takes it off, other calls don't move it.
use Rattle.std.proofs.Common.{◌≡◌, ℕ, true, false, not, List, [], ◌∷◌, refl, map, filter, nat_le, nat_lt, Bool, ◌&&◌, ◌||◌, arith, Option, Some, None, ◌==◌, if◌then◌else◌, ap}
use Rattle.kernel_core.specs.Laws.TimerLaws.{arms, cell_after, stops}
use Rattle.timer_core.specs.Names.{callback_timer, event_timer}
use Rattle.timer_core.specs.Code.Links.{cell_under}
use Rattle.timer_core.specs.Timers.{NamedCell, armed_with, cell_of, stop_timer, with_cell, zero_cell}
use Rattle.timer_core.specs.declared.timer.Cell.{Cell}
use Rattle.kernel_core.proofs.Common.{list_any, decide, Timer, all_timers, is_timer, Timers, is_armed, Call, Reply, Refusal, Machine, with_timers, expiries_cancelled, after_call, answer_done, refused_or, is_callback_timer, is_done, deed}
use Rattle.kernel_core.specs.Calls.{timer_refusal, callback_refusal}
use Rattle.kernel_core.proofs.run_laws.event_order.Runs.{Known, FrontAgrees, told}

pub record OwnTimer : Type 0 where
  pub p : ℕ
  pub t : ℕ

abbrev pub cell_names : List NamedCell → List Timer
cell_names cells = map (λ named. named.timer) cells

never : {A : Type 0} (b : Bool) → b ≡ false → b ≡ true → A
never b n e = absurd (cc)

module _ (timer : Timer) (cell : Cell) where
  named_front : (b : Bool) (named : NamedCell) (new old : List Timer) → new ≡ old
      → (if b then record named { cell = cell } else named).timer ∷ new ≡ named.timer ∷ old
  named_front true named new old e = rw e refl
  named_front false named new old e = rw e refl

  with_cell-names : (cells : List NamedCell) → cell_names (with_cell timer cell cells) ≡ cell_names cells
  with_cell-names [] = refl
  with_cell-names (named ∷ cells) = named_front (is_timer timer named.timer) named _ _ (with_cell-names cells)

  pub armed-names : (timers : Timers) → cell_names (armed_with timer cell timers).cells ≡ cell_names timers.cells
  armed-names timers = with_cell-names timers.cells

pub zero-names : (timers : List Timer) → cell_names (map (λ timer. record { timer = timer; cell = zero_cell }) timers) ≡ timers
zero-names [] = refl
zero-names (timer ∷ timers) = rw (zero-names timers) refl

module _ (timer : Timer) where
  pub zero-cells : (timers : List Timer) → cell_under timer (map (λ timer. record { timer = timer; cell = zero_cell }) timers) ≡ zero_cell
  zero-cells [] = refl
  zero-cells (other ∷ others) = grind (decide, zero-cells others)

  own_front : (cell : Cell) (named : NamedCell) (cells : List NamedCell) (b : Bool) → is_timer timer named.timer ≡ b
      → (list_any (is_timer timer) (cell_names cells) ≡ true → cell_under timer (with_cell timer cell cells) ≡ cell)
      → (b || list_any (is_timer timer) (cell_names cells)) ≡ true
      → cell_under timer ((if b then record named { cell = cell } else named) ∷ with_cell timer cell cells) ≡ cell
  own_front cell named cells true e below n = rw e refl
  own_front cell named cells false e below n = rw e (below n)

  under-own : (cell : Cell) (cells : List NamedCell) → list_any (is_timer timer) (cell_names cells) ≡ true
      → cell_under timer (with_cell timer cell cells) ≡ cell
  under-own cell [] n = absurd (cc)
  under-own cell (named ∷ cells) n = own_front cell named cells (is_timer timer named.timer) refl (under-own cell cells) n

  module _ (other : Timer) (cell : Cell) where
    differs : (named : Timer) → is_timer timer other ≡ false → is_timer other named ≡ true → is_timer timer named ≡ false
    differs = grind decide

    other_front : (named : NamedCell) (new old : List NamedCell) (b c : Bool) → is_timer timer named.timer ≡ c → (b ≡ true → c ≡ false)
        → cell_under timer new ≡ cell_under timer old
        → cell_under timer ((if b then record named { cell = cell } else named) ∷ new) ≡ cell_under timer (named ∷ old)
    other_front named new old true true e d below = never true (d refl) refl
    other_front named new old false true e d below = rw e refl
    other_front named new old true false e d below = rw e below
    other_front named new old false false e d below = rw e below

    under-other : (cells : List NamedCell) → is_timer timer other ≡ false
        → cell_under timer (with_cell other cell cells) ≡ cell_under timer cells
    under-other [] n = refl
    under-other (named ∷ cells) n =
        other_front named _ _ (is_timer other named.timer) (is_timer timer named.timer) refl (differs named.timer n) (under-other cells n)

    cell-armed_other : (timers : Timers) → is_timer timer other ≡ false
        → cell_of timer (armed_with other cell timers) ≡ cell_of timer timers
    cell-armed_other = grind (decide, under-other)

module _ (o : OwnTimer) where
  abbrev pub own_timer : Timer
  own_timer = event_timer o.p o.t

  -- every application has its event timers

  event_timer-named : nat_le 4 o.p ≡ true → nat_lt o.p 20 ≡ true → nat_le o.t 7 ≡ true
      → list_any (is_timer own_timer) all_timers ≡ true
  unfolding all_timers
  event_timer-named = grind decide

  cell-armed_own : (cell : Cell) (timers : Timers) → cell_names timers.cells ≡ all_timers → nat_le 4 o.p ≡ true
      → nat_lt o.p 20 ≡ true → nat_le o.t 7 ≡ true → cell_of own_timer (armed_with own_timer cell timers) ≡ cell
  cell-armed_own = grind (decide, under-own, event_timer-named)

module _ (timer : Timer) where
  pub stopped-own : (armed : List Timer)
      → list_any (is_timer timer) (filter (λ other. not (is_timer timer other)) armed) ≡ false
  stopped-own [] = refl
  stopped-own (x ∷ xs) = grind (decide, stopped-own xs)

  module _ (other : Timer) where
    armed-other : (cell : Cell) (timers : Timers) → is_timer timer other ≡ false
        → is_armed timer (armed_with other cell timers) ≡ is_armed timer timers
    armed-other = grind decide

    pub stopped-other : (armed : List Timer) → is_timer other timer ≡ false
        → list_any (is_timer timer) (filter (λ x. not (is_timer other x)) armed) ≡ list_any (is_timer timer) armed
    stopped-other [] n = refl
    stopped-other (x ∷ xs) n = grind (decide, stopped-other xs n)

no_first : (a b c d : Bool) → (a && (b && (c || d))) ≡ false → (a && (b && c)) ≡ false
no_first = grind decide

no_second : (a b c d : Bool) → (a && (b && (c || d))) ≡ false → (a && (b && d)) ≡ false
no_second = grind decide

not_done : (own done touched : Bool) → (own ≡ true → done ≡ false) → (own && (done && touched)) ≡ false
not_done = grind decide

no_touch : (own done touched : Bool) → touched ≡ false → (own && (done && touched)) ≡ false
no_touch = grind decide

abbrev pub is_timer_call : Call → Bool
is_timer_call (Call.TimerSet u interval) = true
is_timer_call (Call.TimerStop u) = true
is_timer_call (Call.TimerReset u) = true
is_timer_call (Call.TimerRestart u) = true
is_timer_call (Call.CallbackSet c interval) = true
is_timer_call (Call.CallbackStop c) = true
is_timer_call _ = false

-- p's timers have cells
pub record Setting (p : ℕ) (timers : Timers) : Type 0 where
  pub low : nat_le 4 p ≡ true
  pub high : nat_lt p 20 ≡ true
  pub names : cell_names timers.cells ≡ all_timers

module _ (call : Call) (q : ℕ) (m : Machine) where
  pub after-timers : is_timer_call call ≡ false → (after_call call q m).timers ≡ m.timers
  after-timers h = grind arith

  untouched : (t : ℕ) → is_timer_call call ≡ false → (arms t (deed call) || stops t (deed call)) ≡ false
  untouched t h = grind arith

  pub after-clock : (after_call call q m).clock ≡ m.clock
  after-clock = grind arith

module _ (o : OwnTimer) where
  module _ (q : ℕ) where
    -- q's call with reply k arms timer t of p
    abbrev is_set_by : Call → Option Reply → Bool
    is_set_by call k = q == o.p && (is_done k && arms o.t (deed call))

    abbrev is_moved_by : Call → Option Reply → Bool
    is_moved_by call k = q == o.p && (is_done k && (arms o.t (deed call) || stops o.t (deed call)))

    same_timer : (u : ℕ) → (q == o.p) ≡ true → (u == o.t) ≡ true → own_timer o ≡ event_timer q u
    same_timer = grind decide

    module _ (clock : ℕ) (call : Call) (k : Option Reply) where
      pub record Moves (old new : Timers) : Type 0 where
        pub kept : is_moved_by call k ≡ false → is_armed (own_timer o) new ≡ is_armed (own_timer o) old
        pub cell : nat_le o.t 7 ≡ true → cell_of (own_timer o) new
            ≡ (if is_set_by call k then cell_after o.t clock (deed call) (cell_of (own_timer o) old) else cell_of (own_timer o) old)
        pub set : is_set_by call k ≡ true → is_armed (own_timer o) new ≡ true
        pub named : is_set_by call k ≡ true → nat_le o.t 7 ≡ true
        pub unset : (q == o.p && (is_done k && stops o.t (deed call))) ≡ true → is_armed (own_timer o) new ≡ false

      -- a call that neither arms nor stops it
      pub still_moves : (old new : Timers) → is_moved_by call k ≡ false
          → is_armed (own_timer o) new ≡ is_armed (own_timer o) old
          → (nat_le o.t 7 ≡ true → cell_of (own_timer o) new ≡ cell_of (own_timer o) old)
          → Moves old new
      still_moves old new still armed cell =
          let unarmed = no_first (q == o.p) (is_done k) (arms o.t (deed call)) (stops o.t (deed call)) still in
          let unstopped = no_second (q == o.p) (is_done k) (arms o.t (deed call)) (stops o.t (deed call)) still in
          record {
            kept = λ n. armed;
            cell = λ low. rw unarmed (cell low);
            set = never _ unarmed;
            named = never _ unarmed;
            unset = never _ unstopped;
          }

    stopped_moves : (u clock : ℕ) (k : Option Reply) (old : Timers) → ((q == o.p) ≡ true → k ≡ Some Reply.Done)
        → Moves clock (Call.TimerStop u) k old (stop_timer (event_timer q u) old)
    stopped_moves u clock k old told = record {
      kept = grind (decide, stopped-other);
      cell = grind decide;
      set = grind decide;
      named = grind decide;
      unset = grind (decide, stopped-own);
    }

  module _ (q : ℕ) (known : Known) (m : Machine) (s : Setting o.p m.timers) where
    known_own : (k : Option Reply) → known q ≡ k → (q == o.p) ≡ true → known o.p ≡ k
    known_own = grind decide

    same_moves : (call : Call) → is_moved_by q call (known o.p) ≡ false → Moves q m.clock call (known o.p) m.timers m.timers
    same_moves call n = still_moves q m.clock call (known o.p) m.timers m.timers n refl (λ low. refl)

    by_refusal : (call : Call) (after : Machine) (refused : Option Refusal)
        → FrontAgrees known (refused_or refused q m (answer_done q after)).scheduler.agenda
        → (refused ≡ None → ((q == o.p) ≡ true → known o.p ≡ Some Reply.Done) → Moves q m.clock call (known o.p) m.timers after.timers)
        → Moves q m.clock call (known o.p) m.timers (refused_or refused q m (answer_done q after)).timers
    by_refusal call after None front moves = moves refl (known_own _ front)
    by_refusal call after (Some refusal) front moves =
        same_moves call (not_done (q == o.p) (is_done (known o.p)) _ (λ own. ap is_done (known_own _ front own)))

    other_call : (call : Call) → is_timer_call call ≡ false → Moves q m.clock call (known o.p) m.timers (after_call call q m).timers
    other_call call n =
        rw (after-timers call q m n) (same_moves call (no_touch (q == o.p) (is_done (known o.p)) _ (untouched call q m o.t n)))

    pub after-moves : (call : Call) → FrontAgrees known (after_call call q m).scheduler.agenda
        → Moves q m.clock call (known o.p) m.timers (after_call call q m).timers
    after-moves (Call.TimerSet u interval) front =
        grind (decide, armed-other, cell-armed_other, same_timer, cell-armed_own)
    after-moves (Call.TimerRestart u) front =
        grind (decide, still_moves, armed-other, cell-armed_other, same_timer, cell-armed_own)
    after-moves (Call.TimerReset u) front =
        grind (decide, still_moves, armed-other, cell-armed_other, same_timer, cell-armed_own)
    after-moves (Call.TimerStop u) front =
        by_refusal (Call.TimerStop u) (with_timers (stop_timer (event_timer q u) m.timers) m) (timer_refusal u) front
        (λ e told. stopped_moves q u m.clock (known o.p) m.timers told)
    after-moves (Call.CallbackSet c interval) front = grind (decide, by_refusal, still_moves, armed-other, cell-armed_other)
    after-moves (Call.CallbackStop c) front =
        let timer = callback_timer q c in
        by_refusal (Call.CallbackStop c) (expiries_cancelled (is_callback_timer q c) (with_timers (stop_timer timer m.timers) m))
        (callback_refusal c) front
        (λ e told.
        still_moves q m.clock (Call.CallbackStop c) (known o.p) m.timers (stop_timer timer m.timers) (grind decide)
        (stopped-other (own_timer o) timer m.timers.armed refl) (λ number. refl))
    after-moves call front = other_call call refl
