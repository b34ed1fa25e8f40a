-- Ways of a run, one after the other.
use Rattle.std.proofs.Common.{inl, inr, ◌≡◌, ℕ, Bool, true, false, List, [], ◌∷◌, ◌++◌, map, refl, ap, sym, subst, ◌∙◌, append_assoc, append-nil, Result, Ok, Err, IsErrAnd, MatchResult, Option, None, Some}
use Rattle.network_session.specs.Network.{NetworkView}
use Rattle.network_run.specs.Code.Way.{Faulted, IsReason, Moment, Stopped, Takes, TakesIf, Went, is_write, moment, outside_waiting}
use Rattle.std.proofs.lemmas.List.{map-append}
use Rattle.std.proofs.lemmas.List.Elements.{filter_map-append}
use Rattle.mote_text.specs.Code.Writing.{WritesOn}
use Rattle.network_run.specs.declared.fault.NetworkRunFault.{NetworkRunFault}
use Rattle.network_steps.specs.Code.Calls.{Speak, Speaks}
use Rattle.network_steps.specs.Code.Going.{GoesBy}
use Rattle.network_steps.specs.Code.Turns.{ends_open, is_open, is_turn, times_of}
use Rattle.mote_session.specs.Voices.{Voices}
use Rattle.network_run.specs.Code.Ready.{IsRefusedOf, IsWithin, StaysWithin}
use Rattle.network_run.proofs.Ready.{leads_awaits, leads_ready, move_within}
use Rattle.mote_text.proofs.Writing.{nothing_more, then_written}
use Rattle.network_run.specs.Outside.{Outside, all_outside, outside_of}
use Rattle.network_steps.specs.NetworkRuns.{IsMove, Leads, Move, after_move, move_lines, moves_text}
use Rattle.network_steps.specs.Lines.{shown_line, shown_losses}
use Rattle.network_steps.specs.StepsView.{StepsView}
use Rattle.network_steps.specs.Works.{MovesSilently, came_lines, inputs_of, inputs_waiting}
use Rattle.network_steps.specs.declared.came.Came.{Came}
use Rattle.network_steps.specs.declared.came.Sending.{Sending}
use Rattle.network_steps.specs.declared.came.Waiting.{Waiting}
use Rattle.network_steps.specs.declared.input.NetworkInput.{NetworkInput}
use Rattle.network_run.proofs.OutsideMoves.{outside_is}
use Rattle.network_steps.proofs.Moves.{ends_closed, leads_on, speak_on, text_on}

pub only_write : (fault : NetworkRunFault) {lost due : List ℕ} → fault ≡ NetworkRunFault.Write → is_write fault ≡ false → lost ≡ due
only_write fault is not = let yes : is_write fault ≡ true = ap is_write is in absurd (cc)

pub needs_no_reason : (fault : NetworkRunFault) (net : NetworkView) (left : List Outside) → fault ≡ NetworkRunFault.Write → IsReason fault net left
needs_no_reason fault net left is = subst (λ (one : NetworkRunFault). IsReason one net left) (sym is) tt

pub refuses_nothing : (fault : NetworkRunFault) (net : NetworkView) → fault ≡ NetworkRunFault.Write → IsRefusedOf fault net
refuses_nothing fault net is = subst (λ (one : NetworkRunFault). IsRefusedOf one net) (sym is) tt

-- the reason stays the same if more is to come
reason_before : (fault : NetworkRunFault) (net : NetworkView) (left more : List Outside) → IsReason fault net left → IsReason fault net (left ++ more)
reason_before NetworkRunFault.Write net left more why = tt
reason_before (NetworkRunFault.Refused fault) net [] more (inl step) = inl step
reason_before (NetworkRunFault.Refused fault) net [] more (inr none) = let e = none.1 in absurd (cc)
reason_before (NetworkRunFault.Refused fault) net (next ∷ left) more why = why

-- a fault that is handed on
pub fault_on : {T : Type 0} (result : Result T NetworkRunFault) (P : T → Type 0) (Q : NetworkRunFault → Type 0) (fault : NetworkRunFault) →
    IsErrAnd result (λ (handed : NetworkRunFault). handed ≡ fault) → Q fault → MatchResult result P Q
fault_on (Ok x) P Q fault is q = absurd is
fault_on (Err handed) P Q fault is q = subst Q (sym is) q

-- ---- the moves of a step

-- nothing waits after the input that waited
pub later_none : (first : NetworkInput) (later : List NetworkInput) (waiting : Option Waiting) → first ∷ later ≡ inputs_waiting waiting → later ≡ inputs_waiting None
later_none first later None e = absurd (cc)
later_none first later (Some w) e = cc

pub no_tick : (ticks : ℕ) (later : List NetworkInput) (waiting : Option Waiting) → NetworkInput.Tick ticks ∷ later ≡ inputs_waiting waiting → ⊥
no_tick ticks later None e = absurd (cc)
no_tick ticks later (Some w) e = absurd (cc)

-- time may go no further than before
pub leads_within : (moves : List Move) (old new : NetworkView) (later : List NetworkInput) (waiting : Option Waiting) →
    inputs_of moves ++ later ≡ inputs_waiting waiting → Leads old moves new → IsWithin old → IsWithin new
leads_within [] old new later waiting e leads within = subst IsWithin leads within
leads_within (Move.Step x mid ∷ moves) old new later waiting e leads within =
    leads_within moves mid new later waiting e leads.1 (move_within (Move.Step x mid) old leads.0 tt within)
leads_within (Move.Submit call mid ∷ moves) old new later waiting e leads within =
    leads_within moves mid new later waiting e leads.1 (move_within (Move.Submit call mid) old leads.0 tt within)
leads_within (Move.Tick ticks mid ∷ moves) old new later waiting e leads within = absurd (no_tick ticks _ waiting e)
leads_within (Move.Tell m mid ∷ moves) old new later waiting e leads within =
    leads_within moves mid new later waiting e leads.1 (move_within (Move.Tell m mid) old leads.0 tt within)
leads_within (Move.Hand m input mid ∷ moves) old new later waiting e leads within =
    leads_within moves mid new later None (later_none _ _ waiting e) leads.1 (move_within (Move.Hand m input mid) old leads.0 tt within)
leads_within (Move.Miss m input mid ∷ moves) old new later waiting e leads within =
    leads_within moves mid new later None (later_none _ _ waiting e) leads.1 (move_within (Move.Miss m input mid) old leads.0 tt within)

module _ (quiet : Bool) where
  -- moves in which at most the input came that waited
  pub went_by : (moves : List Move) (waiting left : Option Waiting) (old new : NetworkView) {given due given_later due_later lost : List ℕ} {voices later : Voices} →
      Leads old moves new → Speak old moves voices later → times_of moves ≡ [] → inputs_of moves ++ inputs_waiting left ≡ inputs_waiting waiting →
      ends_open moves ≡ false → WritesOn given due given_later lost (moves_text quiet old moves) →
      Stopped quiet (outside_waiting waiting) (outside_waiting left) lost (moment given due old voices) (moment given_later due_later new later)
  went_by moves waiting left old new leads calls untold inputs answered writes = record {
    carried = all_outside moves;
    parts = ap (map Outside.Given) (sym inputs)
        ∙ (map-append Outside.Given (inputs_of moves) (inputs_waiting left)
        ∙ ap (λ (first : List Outside). first ++ outside_waiting left) (sym (outside_is moves untold)));
    went = record {
      moves = moves;
      leads = leads;
      calls = calls;
      carried = refl;
      answered = answered;
      within = λ w. leads_within moves old new (inputs_waiting left) waiting inputs leads w;
      writes = writes;
    };
  }

  -- and none is reported
  pub went_silently : {old new : NetworkView} {waiting left : Option Waiting} {given due : List ℕ} {voices later : Voices} →
      (w : MovesSilently old new waiting left) → Speak old w.moves voices later →
      Stopped quiet (outside_waiting waiting) (outside_waiting left) due (moment given due old voices) (moment given due new later)
  went_silently {old} {new} {waiting} {left} {given} {due} w calls =
      went_by w.moves waiting left old new w.leads calls w.untold w.inputs w.answered
      (subst (λ (text : List ℕ). WritesOn given due given due text) (sym (w.silent quiet)) (nothing_more given due))

  goes_text : {came : Came} {old new : StepsView} {voices later : Voices} → old.sending ≡ None → (g : GoesBy came old new voices later) →
      moves_text quiet old.net g.goes.moves ≡ came_lines quiet came new.net
  goes_text {came} {old} {new} none g =
      ap (λ (o : Option Sending). shown_losses quiet o old.net ++ moves_text quiet old.net g.goes.moves) (sym none)
      ∙ (g.goes.text quiet ∙ ap (λ (o : Option Sending). shown_line quiet came new.net ++ shown_losses quiet o new.net) g.sending)

  -- one that is reported, whose lines are written, pending or lost
  pub came_by : {came : Came} {old new : StepsView} {given due given_later due_later lost : List ℕ} {voices later : Voices} → old.sending ≡ None →
      (g : GoesBy came old new voices later) → is_open came ≡ false → WritesOn given due given_later lost (came_lines quiet came new.net) →
      Stopped quiet (outside_waiting old.waiting) (outside_waiting new.waiting) lost (moment given due old.net voices) (moment given_later due_later new.net later)
  came_by {came} {old} {new} {given} {due} {given_later} {lost = lost} none g closed writes =
      went_by g.goes.moves old.waiting new.waiting old.net new.net g.goes.leads g.calls g.goes.untold g.goes.inputs (g.goes.answered closed)
      (subst (λ (text : List ℕ). WritesOn given due given_later lost text) (sym (goes_text none g)) writes)

  pub went_nowhere : (here : Moment) → Went quiet [] here here
  went_nowhere here = record { moves = []; leads = refl; calls = refl; carried = refl; answered = refl; within = λ w. w; writes = nothing_more here.given here.due }

  pub went_on : {outside more : List Outside} {from mid to : Moment} → Went quiet outside from mid → Went quiet more mid to → Went quiet (outside ++ more) from to
  went_on {outside} {more} {from} {mid} {to} first second = record {
    moves = first.moves ++ second.moves;
    leads = leads_on first.moves second.moves from.net mid.net to.net first.leads second.leads;
    calls = speak_on first.moves second.moves from.net mid.net from.voices mid.voices to.voices first.leads first.calls second.calls;
    carried = filter_map-append outside_of first.moves second.moves
        ∙ (ap (λ (v : List Outside). v ++ all_outside second.moves) first.carried ∙ ap (λ (v : List Outside). outside ++ v) second.carried);
    answered = ends_closed first.moves second.moves first.answered second.answered;
    within = λ w. second.within (first.within w);
    writes = subst (λ (text : List ℕ). WritesOn from.given from.due to.given to.due text)
        (sym (text_on quiet first.moves second.moves from.net mid.net first.leads)) (then_written first.writes second.writes);
  }

  -- one move
  pub went_move : (move : Move) (outside : List Outside) (old new : NetworkView) {given due given_later due_later : List ℕ} {voices later : Voices} →
      IsMove old move → after_move move ≡ new → Speaks old move voices later → all_outside (move ∷ []) ≡ outside → is_turn move ≡ false → StaysWithin old move →
      WritesOn given due given_later due_later (move_lines quiet old move) →
      Went quiet outside (moment given due old voices) (moment given_later due_later new later)
  went_move move outside old new {given} {due} {given_later} {due_later} {later = later} is after speaks carried no_turn stays writes = record {
    moves = move ∷ [];
    leads = (is, after);
    calls = (later, speaks, refl);
    carried = carried;
    answered = no_turn;
    within = λ w. subst IsWithin after (move_within move old is stays w);
    writes = subst (λ (text : List ℕ). WritesOn given due given_later due_later text) (sym (append-nil (move_lines quiet old move))) writes;
  }

  -- a move with no line
  pub went_mute : (move : Move) (outside : List Outside) (old new : NetworkView) (given due : List ℕ) (voices later : Voices) →
      IsMove old move → after_move move ≡ new → Speaks old move voices later → all_outside (move ∷ []) ≡ outside → is_turn move ≡ false → StaysWithin old move → move_lines quiet old move ≡ [] →
      Went quiet outside (moment given due old voices) (moment given due new later)
  went_mute move outside old new given due voices later is after speaks carried no_turn stays none =
      went_move move outside old new is after speaks carried no_turn stays (subst (λ (text : List ℕ). WritesOn given due given due text) (sym none) (nothing_more given due))

  -- nothing is left, and nothing is lost but by a write
  pub all_carried : {outside : List Outside} {from to : Moment} (lost : List ℕ) → Went quiet outside from (record to { due = lost }) → Stopped quiet outside [] lost from to
  all_carried {outside} lost went = record { carried = outside; parts = sym (append-nil outside); went = went }

  -- and before that, others

  pub stopped_after : {outside more left : List Outside} {lost : List ℕ} {from mid to : Moment} → Went quiet outside from mid → Stopped quiet more left lost mid to →
      Stopped quiet (outside ++ more) left lost from to
  stopped_after {outside} {more} {left} first second = record {
    carried = outside ++ second.carried;
    parts = ap (λ (v : List Outside). outside ++ v) second.parts ∙ sym (append_assoc outside second.carried left);
    went = went_on first second.went;
  }

  pub stopped_on : {outside left later : List Outside} {lost : List ℕ} {from mid to : Moment} → Stopped quiet outside left mid.due from mid →
      Stopped quiet left later lost mid to → Stopped quiet outside later lost from to
  stopped_on {outside} {left} {later} {lost} {from} {mid} {to} first second =
      subst (λ (all : List Outside). Stopped quiet all later lost from to) (sym first.parts) (stopped_after first.went second)

  refused_after : {outside : List Outside} {from mid : Moment} (fault : NetworkRunFault) → Went quiet outside from mid → IsRefusedOf fault mid.net → IsRefusedOf fault from.net
  refused_after NetworkRunFault.Write first much = tt
  refused_after {from = from} {mid = mid} (NetworkRunFault.Refused fault) first much = λ ready none within.
      much (leads_ready first.moves from.net mid.net ready first.leads) (leads_awaits first.moves from.net mid.net none first.leads first.answered)
      (first.within within)

  pub faulted_after : {outside more : List Outside} {fault : NetworkRunFault} {from mid to : Moment} → Went quiet outside from mid → Faulted quiet more fault mid to →
      Faulted quiet (outside ++ more) fault from to
  faulted_after {fault = fault} first second = record {
    left = second.left;
    why = second.why;
    much = refused_after fault first second.much;
    lost = second.lost;
    kept = second.kept;
    voices = second.voices;
    stopped = stopped_after first second.stopped;
  }

  -- before further things

  pub stopped_before : {outside left : List Outside} (more : List Outside) {lost : List ℕ} {from to : Moment} → Stopped quiet outside left lost from to →
      Stopped quiet (outside ++ more) (left ++ more) lost from to
  stopped_before {left = left} more first = record {
    carried = first.carried;
    parts = ap (λ (v : List Outside). v ++ more) first.parts ∙ append_assoc first.carried left more;
    went = first.went;
  }

  pub faulted_before : {outside : List Outside} (more : List Outside) {fault : NetworkRunFault} {from to : Moment} → Faulted quiet outside fault from to →
      Faulted quiet (outside ++ more) fault from to
  faulted_before more {fault = fault} {to = to} first = record {
    left = first.left ++ more;
    why = reason_before fault to.net first.left more first.why;
    much = first.much;
    lost = first.lost;
    kept = first.kept;
    voices = first.voices;
    stopped = stopped_before more first.stopped;
  }

  -- a network that refuses is as it was, whatever the application said that has no such turn
  pub faulted_same : (outside : List Outside) (fault : NetworkRunFault) (given due : List ℕ) (old new : NetworkView) (voices later : Voices) → new ≡ old →
      IsReason fault old outside → IsRefusedOf fault old → Faulted quiet outside fault (moment given due old voices) (moment given due new later)
  faulted_same outside fault given due old new voices later same why much = record {
    left = outside;
    why = rw same why;
    much = much;
    lost = due;
    kept = λ not. refl;
    voices = voices;
    stopped = record { carried = []; parts = refl; went = rw same (went_nowhere (moment given due old voices)) };
  }

  pub went_of : {outside : List Outside} {rests : Bool} {from to : Moment} → Takes quiet outside rests from to → rests ≡ true → Went quiet outside from to
  went_of {outside} {from = from} {to = to} takes rests =
      subst (λ (all : List Outside). Went quiet all from to)
      (sym (takes.stopped.parts ∙ (ap (λ (left : List Outside). takes.stopped.carried ++ left) (takes.all rests) ∙ append-nil takes.stopped.carried)))
      takes.stopped.went

  pub takes_after : (result : Result Bool NetworkRunFault) (outside more : List Outside) (from mid to : Moment) → Went quiet outside from mid →
      TakesIf result quiet more mid to → TakesIf result quiet (outside ++ more) from to
  takes_after (Ok rests) outside more from mid to first takes = record { left = takes.left; all = takes.all; stopped = stopped_after first takes.stopped }
  takes_after (Err fault) outside more from mid to first faulted = faulted_after first faulted
