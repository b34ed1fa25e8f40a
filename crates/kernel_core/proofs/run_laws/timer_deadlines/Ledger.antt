-- The ledger of a timer, by the turns of its process.
use Rattle.std.proofs.Common.{◌≡◌, ℕ, false, List, [], ◌∷◌, refl, Bool, Option, Some, None, ◌==◌, ◌+◌, ◌++◌, option_to_list, append-nil, fold, if◌then◌else◌}
use Rattle.kernel_core.specs.Laws.TimerLaws.{Standing, arms, cell_after, standing_after}
use Rattle.timer_core.specs.Timers.{zero_cell}
use Rattle.timer_core.specs.declared.timer.Cell.{Cell}
use Rattle.kernel_core.proofs.Common.{decide, fold-append, Reply, Deed, standing, cons_option, Entry, heard, OwnTurn, own_from, ticks_in, clock_after, is_timer_event, timer_events}
use Rattle.kernel_core.proofs.run_laws.event_order.AcceptedEvents.{reply_or}
use Rattle.kernel_core.proofs.run_laws.Changes.{is_turn}
use Rattle.kernel_core.proofs.run_laws.event_order.Runs.{Known, nothing_known, told, Taken, entry_of, with_turn}
use Rattle.std.proofs.lemmas.List.Elements.{filter_map-append}
use Rattle.kernel_core.proofs.run_laws.timer_deadlines.MovedTimers.{OwnTimer}

-- the turns of p; `known` has the replies that the entries don't show

abbrev own_turn_or : Known → ℕ → ℕ → Entry → List Entry → Option OwnTurn
own_turn_or known p clock (Entry.Turn pid origin stimulus call) later =
    if pid.0 == p
    then Some (record { clock = clock; origin = origin; stimulus = stimulus; call = call; reply = reply_or (known p) (heard p later) })
    else None
own_turn_or known p clock _ later = None

abbrev turns_or : Known → ℕ → ℕ → List Entry → List OwnTurn
turns_or known p clock [] = []
turns_or known p clock (entry ∷ later) =
    cons_option (own_turn_or known p clock entry later) (turns_or known p (clock + ticks_in entry) later)

abbrev clock_from : ℕ → List Entry → ℕ
clock_from clock entries = fold (λ clock entry. clock + ticks_in entry) clock entries

module _ (p : ℕ) where
  turns-none : (clock : ℕ) (X : List Entry) → turns_or nothing_known p clock X ≡ own_from p clock X
  turns-none clock [] = refl
  turns-none clock (entry ∷ later) = grind (decide, turns-none (clock + ticks_in entry) later)

  module _ (known : Known) where
    turn-more : (clock : ℕ) (entry : Entry) (X : List Entry) (e : Entry)
        → own_turn_or known p clock entry (X ++ e ∷ []) ≡ own_turn_or (told e known) p clock entry X
    turn-more = grind (decide, filter_map-append)

    turns-more : (clock : ℕ) (X : List Entry) (e : Entry)
        → turns_or known p clock (X ++ e ∷ [])
        ≡ turns_or (told e known) p clock X ++ option_to_list (own_turn_or known p (clock_from clock X) e [])
    turns-more clock [] e = grind decide
    turns-more clock (entry ∷ X) e = grind (decide, turn-more, turns-more (clock + ticks_in entry) X e)

pub record Ledger : Type 0 where
  pub standing : Standing
  -- the number of TIMER events delivered
  pub given : ℕ

abbrev pub one_if : Bool → ℕ
one_if b = if b then 1 else 0

abbrev ledger_after : ℕ → Ledger → OwnTurn → Ledger
ledger_after t ledger turn =
    record {
      standing = standing_after t ledger.standing turn;
      given = ledger.given + one_if (is_timer_event t turn.stimulus);
    }

abbrev ledger_of : ℕ → List OwnTurn → Ledger
ledger_of t turns =
    fold (ledger_after t)
    (record { standing = record { cell = zero_cell; is_armed = false; was_given = false; ripe = 0 }; given = 0 }) turns

pub unarmed : (t clock : ℕ) (deed : Deed) (cell : Cell) → arms t deed ≡ false → cell_after t clock deed cell ≡ cell
unarmed = grind decide

module _ (t : ℕ) where
  read-fold : (ledger : Ledger) (turns : List OwnTurn)
      → ((fold (ledger_after t) ledger turns).given ≡ fold (λ n turn. n + one_if (is_timer_event t turn.stimulus)) ledger.given turns)
      × ((fold (ledger_after t) ledger turns).standing ≡ fold (standing_after t) ledger.standing turns)
  read-fold ledger [] = (refl, refl)
  read-fold ledger (turn ∷ later) = grind (decide, read-fold (ledger_after t ledger turn) later)

module _ (o : OwnTimer) where
  abbrev pub timer_ledger : Known → List Entry → Ledger
  timer_ledger known X = ledger_of o.t (turns_or known o.p 0 X)

  module _ (X : List Entry) where
    pub timer_events-ledger : timer_events X o.p o.t ≡ (timer_ledger nothing_known X).given
    timer_events-ledger = grind (decide, turns-none, read-fold)

    pub standing-ledger : standing X o.p o.t ≡ (timer_ledger nothing_known X).standing
    standing-ledger = grind (decide, turns-none, read-fold)

  abbrev pub ledger_then : Taken → Option Reply → Ledger → Ledger
  ledger_then t k ledger =
      if t.q == o.p
      then ledger_after o.t ledger (record { clock = t.m.clock; origin = t.origin; stimulus = t.stimulus; call = t.call; reply = k })
      else ledger

  module _ (known : Known) where
    pub ledger-turn : (t : Taken) → t.m.clock ≡ clock_after t.X
        → timer_ledger known (with_turn t) ≡ ledger_then t (known o.p) (timer_ledger (told (entry_of t) known) t.X)
    ledger-turn = grind (decide, turns-more, fold-append)

    pub ledger-other : (X : List Entry) (e : Entry) → is_turn e ≡ false → timer_ledger known (X ++ e ∷ []) ≡ timer_ledger known X
    ledger-other = grind (decide, turns-more, append-nil)
