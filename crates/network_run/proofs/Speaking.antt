-- The calls of a run's moves are those that the applications make.
use Rattle.std.proofs.Common.{◌≡◌, ℕ, ◌==◌, ◌&&◌, Bool, true, false, List, [], ◌∷◌, ◌++◌, filter_map, slice_get, refl, ap, sym, subst, ◌∙◌, arith, Option, Some, None}
use Rattle.std.proofs.lemmas.Bool.Decides.{nat_tests}
use Rattle.std.proofs.lemmas.List.Elements.{filter_map-append}
use Rattle.kernel_core.specs.Run.{heard, stimulus_of}
use Rattle.medium_core.specs.declared.flight.Flight.{Flight}
use Rattle.mote_session.specs.Answered.{AnswersAs}
use Rattle.mote_session.specs.SessionView.{SessionView}
use Rattle.mote_types.specs.Applications.{Applications}
use Rattle.mote_types.specs.declared.call.Call.{Call}
use Rattle.mote_types.specs.declared.entry.Entry.{Entry}
use Rattle.mote_types.specs.declared.event.Origin.{Origin}
use Rattle.mote_types.specs.declared.event.Pid.{Pid}
use Rattle.mote_types.specs.declared.event.Stimulus.{Stimulus}
use Rattle.network_session.specs.Happenings.{Happening, entry_of}
use Rattle.network_session.specs.Logs.{happened, heard_by, made, told_by}
use Rattle.network_session.specs.Network.{NetworkView}
use Rattle.network_session.specs.Steps.{Steps}
use Rattle.mote_session.specs.declared.session.Next.{Next}
use Rattle.network_session.specs.declared.outcome.Outcome.{Outcome}
use Rattle.network_session.proofs.Working.{there_after}
use Rattle.network_steps.specs.Code.Calls.{Speak, Speaks}
use Rattle.mote_session.specs.Voices.{IsCall, Voices}
use Rattle.network_run.specs.Voices.{MakeTheCalls}
use Rattle.network_steps.specs.NetworkRuns.{IsMove, Leads, Move, after_move, log_of, moved}

-- ---- entries of one mote, one after the other

entry_turn : (p : Pid) (o : Origin) (s : Stimulus) (c : Call) → heard p.0 (Entry.Turn p o s c ∷ []) ≡ s ∷ []
entry_turn p o s c = let same : (p.0 == p.0) ≡ true = grind (arith, nat_tests) in rw same refl

no_turn : (e : Entry) (p : Pid) (o : Origin) (s : Stimulus) (c : Call) → ((q : ℕ) → heard q (e ∷ []) ≡ []) → e ≡ Entry.Turn p o s c → ⊥
no_turn e p o s c untold is =
    let one : heard p.0 (e ∷ []) ≡ s ∷ [] = ap (λ (x : Entry). heard p.0 (x ∷ [])) is ∙ entry_turn p o s c in
    let none : [] ≡ s ∷ [] = sym (untold p.0) ∙ one in absurd (cc)

unheard : (o : Option Stimulus) (later : List Stimulus) (e : Entry) (q : ℕ) (es : List Entry) → heard q (e ∷ []) ≡ [] → stimulus_of q e ≡ o →
    heard q (e ∷ es) ≡ heard q es
unheard None later e q es none is = rw is refl
unheard (Some s) later e q es none is = let some : heard q (e ∷ []) ≡ s ∷ [] = rw is refl in absurd (cc)

pub answers_other : (says : Applications) (e : Entry) (es : List Entry) → ((q : ℕ) → heard q (e ∷ []) ≡ []) → AnswersAs says es → AnswersAs says (e ∷ es)
answers_other says e es untold answers [] later p o s c same =
    let is : e ≡ Entry.Turn p o s c = cc in absurd (no_turn e p o s c untold is)
answers_other says e es untold answers (b ∷ before) later p o s c same =
    let is : b ≡ e = cc in
    let rest : es ≡ before ++ Entry.Turn p o s c ∷ later = cc in
    rw (is, unheard (stimulus_of p.0 e) [] e p.0 before (untold p.0) refl) (answers before later p o s c rest)

-- what is said after a stimulus
said_after : (old new : Applications) (p : ℕ) (s : Stimulus) →
    ((t : Stimulus) (l : List Stimulus) → new p (t ∷ l) ≡ old p (s ∷ t ∷ l)) → (heard_so : List Stimulus) (t : Stimulus) →
    old p (s ∷ (heard_so ++ t ∷ [])) ≡ new p (heard_so ++ t ∷ [])
said_after old new p s law [] t = sym (law t [])
said_after old new p s law (x ∷ xs) t = sym (law x (xs ++ t ∷ []))

said_by_others : (old new : Applications) (q : ℕ) → ((t : Stimulus) (l : List Stimulus) → new q (t ∷ l) ≡ old q (t ∷ l)) →
    (heard_so : List Stimulus) (t : Stimulus) → old q (heard_so ++ t ∷ []) ≡ new q (heard_so ++ t ∷ [])
said_by_others old new q same [] t = sym (same t [])
said_by_others old new q same (x ∷ xs) t = sym (same x (xs ++ t ∷ []))

module _ (before after : Voices) (m : ℕ) (p : Pid) (o : Origin) (s : Stimulus) (c : Call) (is : IsCall m p.0 s c before after) where
  turn_said : (test : Bool) (earlier : List Entry) (q : Pid) (t : Stimulus) → (p.0 == q.0) ≡ test →
      before m q.0 (heard q.0 (Entry.Turn p o s c ∷ earlier) ++ t ∷ []) ≡ after m q.0 (heard q.0 earlier ++ t ∷ [])
  turn_said true earlier q t test =
      let number : p.0 ≡ q.0 = grind (arith, nat_tests) in
      rw test (subst (λ (n : ℕ). before m n (s ∷ (heard q.0 earlier ++ t ∷ [])) ≡ after m n (heard q.0 earlier ++ t ∷ [])) number
      (said_after (before m) (after m) p.0 s is.law (heard q.0 earlier) t))
  turn_said false earlier q t test =
      let apart : (m == m && q.0 == p.0) ≡ false = grind (arith, nat_tests) in
      rw test (said_by_others (before m) (after m) q.0 (is.others m q.0 apart) (heard q.0 earlier) t)

  pub answers_turn : (es : List Entry) → AnswersAs (after m) es → AnswersAs (before m) (Entry.Turn p o s c ∷ es)
  answers_turn es answers [] later q origin t call same =
      let number : q ≡ p = cc in
      let told : t ≡ s = cc in
      let called : call ≡ c = cc in
      rw (number, told, called) is.made
  answers_turn es answers (b ∷ earlier) later q origin t call same =
      let first : b ≡ Entry.Turn p o s c = cc in
      let rest : es ≡ earlier ++ Entry.Turn q origin t call ∷ later = cc in
      rw first (turn_said (p.0 == q.0) earlier q t refl ∙ answers earlier later q origin t call rest)

  -- the applications of other motes say what they said
  pub answers_apart : (i : ℕ) → (i == m) ≡ false → (es : List Entry) → AnswersAs (after i) es → AnswersAs (before i) es
  answers_apart i apart es answers earlier later q origin t call same =
      let other : (i == m && q.0 == p.0) ≡ false = rw apart refl in
      said_by_others (before i) (after i) q.0 (is.others i q.0 other) (heard q.0 earlier) t ∙ answers earlier later q origin t call same

-- ---- the entries of a move

abbrev entries_of : ℕ → List Happening → List Entry
entries_of i log = filter_map (entry_of i) log

no_told : (i clock m : ℕ) (mote : Option SessionView) → entries_of i (told_by clock m mote) ≡ []
no_told i clock m None = refl
no_told i clock m (Some mote) = refl

no_heard : (i m : ℕ) (flight : Option Flight) → entries_of i (heard_by m flight) ≡ []
no_heard i m None = refl
no_heard i m (Some flight) = refl

module _ (voices : Voices) (i : ℕ) (es : List Entry) (answers : AnswersAs (voices i) es) where
  none : (log : List Happening) → entries_of i log ≡ [] → AnswersAs (voices i) (entries_of i log ++ es)
  none log empty = rw empty answers

  made_other : (test : Bool) (m : ℕ) (e : Entry) → (m == i) ≡ test → ((q : ℕ) → heard q (e ∷ []) ≡ []) →
      AnswersAs (voices i) (entries_of i (made m (Some e)) ++ es)
  made_other true m e test untold = rw test (answers_other (voices i) e es untold answers)
  made_other false m e test untold = rw test answers

  answers_step : (x : Outcome) (old new : NetworkView) → Steps x old new → AnswersAs (voices i) (entries_of i (happened x old new) ++ es)
  answers_step (Outcome.Worked m Next.Entry) old new s =
      let w = s.worked in
      let there : slice_get new.motes m ≡ Some w.after = there_after m old.motes new.motes w.before w.after w.mote w.others in
      rw (there, w.advances.last) (made_other (m == i) m w.advances.entry refl w.advances.untold)
  answers_step (Outcome.Woken m) old new s = none (told_by old.air.clock m (slice_get old.motes m)) (no_told i old.air.clock m (slice_get old.motes m))
  answers_step (Outcome.Heard m) old new s = none (happened (Outcome.Heard m) old new) (no_heard i m _)
  answers_step (Outcome.Missed from to) old new s = answers
  answers_step Outcome.Clock old new s = answers
  answers_step (Outcome.Started m) old new s = answers
  answers_step (Outcome.Worked m Next.Turn) old new s = answers
  answers_step (Outcome.Worked m Next.Rest) old new s = answers
  answers_step (Outcome.Worked m Next.Halted) old new s = answers
  answers_step Outcome.Rest old new s = answers
  answers_step Outcome.Exhausted old new s = answers

module _ (before after : Voices) (i : ℕ) (es : List Entry) (answers : AnswersAs (after i) es) where
  submitted_turn : (test : Bool) (m : ℕ) (p : Pid) (o : Origin) (s : Stimulus) (c : Call) → (m == i) ≡ test → IsCall m p.0 s c before after →
      AnswersAs (before i) (entries_of i (made m (Some (Entry.Turn p o s c))) ++ es)
  submitted_turn true m p o s c test is =
      let number : m ≡ i = grind (arith, nat_tests) in
      rw test (subst (λ (n : ℕ). AnswersAs (before n) (Entry.Turn p o s c ∷ es)) number
      (answers_turn before after m p o s c is es (subst (λ (n : ℕ). AnswersAs (after n) es) (sym number) answers)))
  submitted_turn false m p o s c test is =
      let apart : (i == m) ≡ false = grind (arith, nat_tests) in
      rw test (answers_apart before after m p o s c is i apart es answers)

  answers_move : (move : Move) (old : NetworkView) → IsMove old move → Speaks old move before after →
      AnswersAs (before i) (entries_of i (moved old move) ++ es)
  answers_move (Move.Step x new) old is same =
      answers_step before i es (subst (λ (v : Voices). AnswersAs (v i) es) same answers) x old new is.steps
  answers_move (Move.Tick ticks new) old is same = subst (λ (v : Voices). AnswersAs (v i) es) same answers
  answers_move (Move.Tell m new) old is same =
      none before i es (subst (λ (v : Voices). AnswersAs (v i) es) same answers) (told_by old.air.clock m (slice_get old.motes m))
      (no_told i old.air.clock m (slice_get old.motes m))
  answers_move (Move.Hand m input new) old is same = subst (λ (v : Voices). AnswersAs (v i) es) same answers
  answers_move (Move.Miss m input new) old is same = subst (λ (v : Voices). AnswersAs (v i) es) same answers
  answers_move (Move.Submit call new) old is speaks =
      let turn = speaks.spoke in
      rw (speaks.active, speaks.there, turn.is_last)
      (submitted_turn (speaks.m == i) speaks.m turn.process turn.origin turn.stimulus turn.call refl turn.is_call)

no_entries : (says : Applications) → AnswersAs says []
no_entries says [] later p o s c same = absurd (cc)
no_entries says (b ∷ earlier) later p o s c same = absurd (cc)

pub make_the_calls : (moves : List Move) (old new : NetworkView) (before after : Voices) → Leads old moves new → Speak old moves before after →
    MakeTheCalls before (log_of old moves)
make_the_calls [] old new before after leads speak = λ i. no_entries (before i)
make_the_calls (move ∷ moves) old new before after leads speak = λ i.
    subst (λ (entries : List Entry). AnswersAs (before i) entries)
    (sym (filter_map-append (entry_of i) (moved old move) (log_of (after_move move) moves)))
    (answers_move before speak.0 i (entries_of i (log_of (after_move move) moves))
    (make_the_calls moves (after_move move) new speak.0 after leads.1 speak.2 i) move old leads.0 speak.1)
