-- What an entry adds to the events accepted for p and delivered to it.
use Rattle.std.proofs.Common.{◌≡◌, ℕ, ◌+◌, Bool, false, ◌||◌, List, [], ◌∷◌, ◌++◌, refl, Option, None, option_to_list, filter_map, if◌then◌else◌, ◌==◌}
use Rattle.kernel_core.specs.Laws.EventLaws.{is_event_of_code, posted_event}
use Rattle.kernel_core.proofs.Common.{deed, cons_option, list_any, decide, Call, Reply, Stimulus, Event, Entry, EXIT, heard, OwnTurn, own_from, reply_of, is_done, ticks_in, has_ended, is_exit, given_events, event_for, accepted_events}
use Rattle.std.proofs.lemmas.List.Elements.{filter_map-append}
use Rattle.kernel_core.proofs.run_laws.event_order.Runs.{Known, nothing_known, told}

abbrev pub reply_or : Option Reply → List Stimulus → Option Reply
reply_or known [] = known
reply_or known (stimulus ∷ _) = reply_of stimulus

abbrev accepted_or : Known → ℕ → Entry → List Entry → Option Event
accepted_or known p (Entry.Turn pid origin stimulus call) later =
    if is_done (reply_or (known pid.0) (heard pid.0 later)) then event_for p (deed call) else None
accepted_or known p _ later = None

-- the events accepted for p; `known` has the replies that the entries don't show
abbrev pub accepted_with : Known → ℕ → List Entry → List Event
accepted_with known p [] = []
accepted_with known p (entry ∷ later) = cons_option (accepted_or known p entry later) (accepted_with known p later)

module _ (known : Known) (p : ℕ) where
  -- the next reply to a process, apart from what its calls do
  reply_or-more : (q : ℕ) (X : List Entry) (e : Entry)
      → reply_or (known q) (heard q (X ++ e ∷ [])) ≡ reply_or (told e known q) (heard q X)
  reply_or-more = grind (decide, filter_map-append)

  accepted_or-more : (entry : Entry) (X : List Entry) (e : Entry)
      → accepted_or known p entry (X ++ e ∷ []) ≡ accepted_or (told e known) p entry X
  accepted_or-more (Entry.Turn pid origin stimulus call) X e = rw (reply_or-more pid.0 X e) refl
  accepted_or-more entry X e = refl

  -- what a turn adds
  abbrev pub own_event : ℕ → Call → List Event
  own_event q call = option_to_list (if is_done (known q) then event_for p (deed call) else None)

  pub accepted-more : (X : List Entry) (e : Entry)
      → accepted_with known p (X ++ e ∷ []) ≡ accepted_with (told e known) p X ++ option_to_list (accepted_or known p e [])
  accepted-more [] e = grind decide
  accepted-more (entry ∷ X) e = grind (decide, accepted_or-more, accepted-more X e)

abbrev given_turn : OwnTurn → Option Event
given_turn turn = posted_event turn.origin turn.stimulus

abbrev is_end : Stimulus → Call → Bool
is_end stimulus call = is_exit (deed call) || is_event_of_code EXIT stimulus

or-assoc : (a b c : Bool) → (a || (b || c)) ≡ ((a || b) || c)
or-assoc = grind decide

-- whether a turn of p passes a test: of any test, so that no proof looks into the calls
module _ (test : Stimulus → Call → Bool) (p : ℕ) where
  abbrev passes_in : Entry → Bool
  passes_in (Entry.Turn pid origin stimulus call) = if pid.0 == p then test stimulus call else false
  passes_in _ = false

  abbrev passes : OwnTurn → Bool
  passes turn = test turn.stimulus turn.call

  passed-from : (k : ℕ) (X : List Entry) (e : Entry)
      → list_any passes (own_from p k (X ++ e ∷ [])) ≡ (list_any passes (own_from p k X) || passes_in e)
  passed-from k [] e = grind decide
  passed-from k (entry ∷ X) e = grind (decide, or-assoc, passed-from (k + ticks_in entry) X e)

module _ (p : ℕ) where
  pub accepted_with-none : (X : List Entry) → accepted_with nothing_known p X ≡ accepted_events p X
  accepted_with-none [] = refl
  accepted_with-none (entry ∷ later) = grind (decide, accepted_with-none later)

  -- what is delivered, and whether p ended
  abbrev pub given_in : Entry → List Event
  given_in (Entry.Turn pid origin stimulus call) = if pid.0 == p then option_to_list (posted_event origin stimulus) else []
  given_in _ = []

  abbrev pub ends_in : Entry → Bool
  ends_in = passes_in is_end p

  given-from : (k : ℕ) (X : List Entry) (e : Entry)
      → filter_map given_turn (own_from p k (X ++ e ∷ [])) ≡ filter_map given_turn (own_from p k X) ++ given_in e
  given-from k [] e = grind decide
  given-from k (entry ∷ X) e = grind (decide, given-from (k + ticks_in entry) X e)

  module _ (X : List Entry) (e : Entry) where
    pub given-more : given_events (X ++ e ∷ []) p ≡ given_events X p ++ given_in e
    given-more = grind (decide, given-from)

    pub ended-more : has_ended p (X ++ e ∷ []) ≡ (has_ended p X || ends_in e)
    ended-more = passed-from is_end p 0 X e
