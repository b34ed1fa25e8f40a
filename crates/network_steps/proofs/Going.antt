-- Moves one after the other, up to one that is reported or refused.
use Rattle.std.proofs.Common.{◌≡◌, ℕ, not, Bool, true, false, List, [], ◌∷◌, ◌++◌, slice_get, refl, ap, sym, subst, ◌∙◌, append-nil, Option, None, Some, is_some, IfSome, IsSomeAnd, MatchOption, IsErrAnd, IfErr, Result, Ok, Err, inl, inr, ◌<◌, ◌≤◌, arith}
use Rattle.std.proofs.lemmas.List.{append_assoc}
use Rattle.mote_session.specs.SessionView.{SessionView}
use Rattle.mote_session.specs.Voices.{SpokeLast, Voices}
use Rattle.mote_session.specs.declared.session.Next.{Next}
use Rattle.mote_types.specs.declared.call.Call.{Call}
use Rattle.mote_types.specs.declared.entry.Entry.{Entry}
use Rattle.mote_types.specs.declared.event.Origin.{Origin}
use Rattle.mote_types.specs.declared.event.Pid.{Pid}
use Rattle.mote_types.specs.declared.event.Stimulus.{Stimulus}
use Rattle.network_session.specs.Code.Measures.{left_at_work, most_left_at_work}
use Rattle.network_session.specs.Code.Working.{TakesTurn}
use Rattle.network_session.specs.Logs.{happened}
use Rattle.network_session.specs.Network.{NetworkView}
use Rattle.network_session.specs.Refusals.{feed_refusal, mote_at_work, step_refusal}
use Rattle.network_session.specs.Schedule.{due_step}
use Rattle.network_session.specs.Steps.{IsNetworkFed, Worked, is_work}
use Rattle.network_session.specs.declared.fault.NetworkFault.{NetworkFault}
use Rattle.network_session.specs.declared.outcome.Outcome.{Outcome}
use Rattle.network_session.proofs.Working.{there_after}
use Rattle.network_steps.specs.Code.Calls.{IsActiveCall}
use Rattle.network_steps.specs.Code.Going.{GoesBy, PassesBy, StepsBy, StopsBy, came_if, came_in, left_to_do}
use Rattle.network_steps.specs.Code.Turns.{is_end_if, is_of_mote_if, is_open_if, is_turn_step, times_of}
use Rattle.network_steps.specs.NetworkRuns.{DoesStep, IsResting, Leads, Move, is_halted_in, moves_text}
use Rattle.network_steps.specs.NetworkText.{log_text}
use Rattle.network_steps.specs.declared.input.NetworkInput.{NetworkInput}
use Rattle.network_steps.specs.Lines.{losses_left}
use Rattle.network_steps.specs.Refusals.{awaited_turn, fault_of, turn_of}
use Rattle.network_steps.specs.StepsView.{StepsView}
use Rattle.network_steps.specs.Works.{GoesNext, IsCame, IsRefused, MovesSilently, came_of, inputs_of, inputs_waiting, last_after, noted, sending_by, sending_of}
use Rattle.network_steps.specs.declared.came.Came.{Came}
use Rattle.network_steps.specs.declared.came.Phase.{Phase}
use Rattle.network_steps.specs.declared.came.Sending.{Sending}
use Rattle.network_steps.specs.declared.came.Waiting.{Waiting}
use Rattle.network_steps.specs.declared.fault.StepsFault.{StepsFault}
use Rattle.network_steps.proofs.Moves.{ends_closed, inputs_on, leads_on, speak_on, text_on, there_submitted, times_on}
use Rattle.network_steps.proofs.Reports.{moves_nowhere, none_left, none_sent}
use Rattle.network_steps.proofs.Silent.{ends_work, idle_if, less}
use Rattle.network_steps.proofs.StepText.{lines_if, step_is, submitted_is}

-- ---- one after the other

-- nothing happens but that work is to begin
pub passes_still : (s : StepsView) (voices : Voices) → s.sending ≡ None → PassesBy s (record s { phase = Phase.Working }) voices voices
passes_still s voices none = record { way = moves_nowhere s.net s.waiting; calls = refl; last = refl; links = refl; sending = none; works = refl }

waiting_on : (first second : List Move) (later middle earlier : List NetworkInput) → inputs_of second ++ later ≡ middle → inputs_of first ++ middle ≡ earlier →
    inputs_of (first ++ second) ++ later ≡ earlier
waiting_on first second later middle earlier after before =
    ap (λ (inputs : List NetworkInput). inputs ++ later) (inputs_on first second)
    ∙ (append_assoc (inputs_of first) (inputs_of second) later
    ∙ (ap (λ (inputs : List NetworkInput). inputs_of first ++ inputs) after ∙ before))

untold_on : (first second : List Move) → times_of first ≡ [] → times_of second ≡ [] → times_of (first ++ second) ≡ []
untold_on first second one two = times_on first second ∙ rw (one, two) refl

silent_on : (quiet : Bool) (first second : List Move) (old mid : NetworkView) → Leads old first mid → moves_text quiet old first ≡ [] →
    moves_text quiet mid second ≡ [] → moves_text quiet old (first ++ second) ≡ []
silent_on quiet first second old mid leads one two = text_on quiet first second old mid leads ∙ rw (one, two) refl

abbrev moves_on : {old mid new : NetworkView} {waiting between left : Option Waiting} → MovesSilently old mid waiting between →
    MovesSilently mid new between left → MovesSilently old new waiting left
moves_on {old} {mid} {new} {waiting} {between} {left} p q = record {
  moves = p.moves ++ q.moves;
  leads = leads_on p.moves q.moves old mid new p.leads q.leads;
  silent = λ quiet. silent_on quiet p.moves q.moves old mid p.leads (p.silent quiet) (q.silent quiet);
  inputs = waiting_on p.moves q.moves (inputs_waiting left) (inputs_waiting between) (inputs_waiting waiting) q.inputs p.inputs;
  untold = untold_on p.moves q.moves p.untold q.untold;
  answered = ends_closed p.moves q.moves p.answered q.answered;
}

pub passes_on : {old mid new : StepsView} {before between after : Voices} → PassesBy old mid before between → PassesBy mid new between after →
    PassesBy old new before after
passes_on {old} {mid} {before = before} {between} {after} p q = record {
  way = moves_on p.way q.way;
  calls = speak_on p.way.moves q.way.moves old.net mid.net before between after p.way.leads p.calls q.calls;
  last = q.last ∙ p.last;
  links = q.links ∙ p.links;
  sending = q.sending;
  works = q.works;
}

pub goes_on : {came : Came} {old mid new : StepsView} {before between after : Voices} → old.sending ≡ None → PassesBy old mid before between →
    GoesBy came mid new between after → GoesBy came old new before after
goes_on {came} {old} {mid} {new} {before} {between} {after} none p g = record {
  goes = record {
    moves = p.way.moves ++ g.goes.moves;
    leads = leads_on p.way.moves g.goes.moves old.net mid.net new.net p.way.leads g.goes.leads;
    text = λ quiet.
        rw (none_sent old none quiet)
        (text_on quiet p.way.moves g.goes.moves old.net mid.net p.way.leads
        ∙ (rw (p.way.silent quiet)
        (ap (λ (lost : List ℕ). lost ++ moves_text quiet mid.net g.goes.moves) (sym (none_sent mid p.sending quiet)) ∙ g.goes.text quiet)));
    inputs = waiting_on p.way.moves g.goes.moves (inputs_waiting new.waiting) (inputs_waiting mid.waiting) (inputs_waiting old.waiting) g.goes.inputs p.way.inputs;
    last = g.goes.last ∙ ap (last_after came) p.last;
    phase = g.goes.phase;
    is_came = g.goes.is_came;
    links = g.goes.links ∙ p.links;
    untold = untold_on p.way.moves g.goes.moves p.way.untold g.goes.untold;
    answered = λ closed. ends_closed p.way.moves g.goes.moves p.way.answered (g.goes.answered closed);
  };
  calls = speak_on p.way.moves g.goes.moves old.net mid.net before between after p.way.leads p.calls g.calls;
  sending = g.sending;
}

pub stops_on : {cause : NetworkFault} {old mid : StepsView} {new : NetworkView} {before between after : Voices} → PassesBy old mid before between →
    StopsBy cause mid new between after → StopsBy cause old new before after
stops_on {old = old} {mid} {before = before} {between} {after} p q = record {
  left = q.left;
  way = moves_on p.way q.way;
  calls = speak_on p.way.moves q.way.moves old.net mid.net before between after p.way.leads p.calls q.calls;
  refuses = q.refuses;
}

-- ---- one step

step_text : (quiet : Bool) (x : Outcome) (came : Option Came) (old new : NetworkView) → DoesStep x old new → came ≡ came_of x →
    moves_text quiet old (Move.Step x new ∷ []) ≡ lines_if quiet came new
step_text quiet x came old new does is = rw is (append-nil (log_text quiet old.air (happened x old new)) ∙ step_is quiet x old new does)

-- a turn is what is reported whose call is awaited
opens_turn : (x : Outcome) → is_open_if (came_of x) ≡ is_turn_step x
opens_turn (Outcome.Worked m Next.Turn) = refl
opens_turn (Outcome.Worked m Next.Entry) = refl
opens_turn (Outcome.Worked m Next.Rest) = refl
opens_turn (Outcome.Worked m Next.Halted) = refl
opens_turn (Outcome.Started m) = refl
opens_turn (Outcome.Woken m) = refl
opens_turn (Outcome.Heard m) = refl
opens_turn (Outcome.Missed from to) = refl
opens_turn Outcome.Clock = refl
opens_turn Outcome.Rest = refl
opens_turn Outcome.Exhausted = refl

closed_if : (x : Outcome) (came : Option Came) → came ≡ came_of x → is_open_if came ≡ false → is_turn_step x ≡ false
closed_if x came is closed = sym (opens_turn x) ∙ (ap is_open_if (sym is) ∙ closed)

-- a step that isn't reported
pub passes_step : (x : Outcome) (s new : StepsView) (net : NetworkView) (voices : Voices) → s.sending ≡ None → s.phase ≡ Phase.Working → DoesStep x s.net net →
    None ≡ came_of x → new ≡ record s { net = net } → PassesBy s new voices voices
passes_step x s new net voices none works does silent is =
    subst (λ (v : StepsView). PassesBy s v voices voices) (sym is)
    (record {
      way = record {
        moves = Move.Step x net ∷ [];
        leads = (does, refl);
        silent = λ quiet. step_text quiet x None s.net net does silent;
        inputs = refl;
        untold = refl;
        answered = closed_if x None silent refl;
      };
      calls = (voices, refl, refl);
      last = refl;
      links = refl;
      sending = none;
      works = works;
    })

pub rest_after : (old new : NetworkView) → DoesStep Outcome.Rest old new → IsResting new
rest_after old new does =
    let idle = idle_if old.active does.work in
    rw does.steps (record { idle = idle; due = sym (does.due idle) })

-- what is so where it is reported
came_so : (x : Outcome) (old new : NetworkView) (s : StepsView) → DoesStep x old new → s.net ≡ new → (x ≡ Outcome.Rest → s.waiting ≡ None) →
    IfSome (came_of x) (λ (came : Came). IsCame came s)
came_so Outcome.Rest old new s does e none = (subst IsResting (sym e) (rest_after old new does), none refl)
came_so Outcome.Exhausted old new s does e none =
    let idle = idle_if old.active does.work in
    (ap (λ (v : NetworkView). v.active) (e ∙ does.steps) ∙ idle, ap due_step (e ∙ does.steps) ∙ sym (does.due idle))
came_so (Outcome.Worked m Next.Turn) old new s does e none =
    let k = does.steps in
    let active : new.active ≡ Some m = ap (λ (v : NetworkView). v.active) k.result in
    let there = there_after m old.motes new.motes k.worked.before k.worked.after k.worked.mote k.worked.others in
    let awaited : awaited_turn new ≡ Some k.worked.advances.turn =
    ap (λ (o : Option ℕ). turn_of (mote_at_work new o)) active ∙ (ap turn_of there ∙ k.worked.advances.opened) in
    (ap (λ (v : NetworkView). v.active) e ∙ active, ap (λ (v : NetworkView). is_some (awaited_turn v)) e ∙ ap is_some awaited)
came_so (Outcome.Worked m Next.Entry) old new s does e none = tt
came_so (Outcome.Worked m Next.Rest) old new s does e none = tt
came_so (Outcome.Worked m Next.Halted) old new s does e none = tt
came_so (Outcome.Missed from to) old new s does e none = tt
came_so Outcome.Clock old new s does e none = tt
came_so (Outcome.Started m) old new s does e none = tt
came_so (Outcome.Woken m) old new s does e none = tt
came_so (Outcome.Heard m) old new s does e none = tt

-- a step that is reported
pub goes_step : (x : Outcome) (came : Came) (s new : StepsView) (net : NetworkView) (voices : Voices) → s.sending ≡ None → DoesStep x s.net net →
    Some came ≡ came_of x → (x ≡ Outcome.Rest → s.waiting ≡ None) → new ≡ noted came (record s { net = net }) → GoesBy came s new voices voices
goes_step x came s new net voices none does reported waits is =
    subst (λ (v : StepsView). GoesBy came s v voices voices) (sym is)
    (record {
      goes = record {
        moves = Move.Step x net ∷ [];
        leads = (does, refl);
        text = λ quiet. rw (none_sent s none quiet) (step_text quiet x (Some came) s.net net does reported);
        inputs = refl;
        last = refl;
        phase = refl;
        is_came = rw (← reported) at (came_so x s.net net (noted came (record s { net = net })) does refl waits);
        links = refl;
        untold = refl;
        answered = λ closed. closed_if x (Some came) reported closed;
      };
      calls = (voices, refl, refl);
      sending = refl;
    })

-- rest is noted
pub goes_rest : (s : StepsView) (waiting : Option Waiting) (voices : Voices) → IsResting s.net → s.sending ≡ None → s.waiting ≡ None → waiting ≡ None →
    GoesBy Came.Rest s (record s { waiting = waiting; phase = Phase.Resting }) voices voices
goes_rest s waiting voices rested none taken after =
    goes_step Outcome.Rest Came.Rest s (record s { waiting = waiting; phase = Phase.Resting }) s.net voices none
    (record { steps = refl; due = λ idle. sym rested.due; work = sym (ap is_some rested.idle) }) refl (λ e. taken) (rw (none, taken, after) refl)

-- of a step that is no mote's own, nothing of a mote is reported
none_of_mote : (x : Outcome) → is_work x ≡ false → is_of_mote_if (came_of x) ≡ false
none_of_mote (Outcome.Worked m next) e = absurd (cc)
none_of_mote (Outcome.Started m) e = refl
none_of_mote (Outcome.Woken m) e = refl
none_of_mote (Outcome.Heard m) e = refl
none_of_mote (Outcome.Missed from to) e = refl
none_of_mote Outcome.Clock e = refl
none_of_mote Outcome.Rest e = refl
none_of_mote Outcome.Exhausted e = refl

-- what isn't of a mote awaits no call
pub closed_apart : (came : Option Came) → is_of_mote_if came ≡ false → is_open_if came ≡ false
closed_apart None e = refl
closed_apart (Some (Came.Turn m)) e = absurd (cc)
closed_apart (Some (Came.Entry m)) e = refl
closed_apart (Some Came.Clock) e = refl
closed_apart (Some (Came.Lost from to)) e = refl
closed_apart (Some (Came.Full from to)) e = refl
closed_apart (Some (Came.Missed from to)) e = refl
closed_apart (Some (Came.Unheard m)) e = refl
closed_apart (Some Came.Rest) e = refl
closed_apart (Some Came.Exhausted) e = refl

-- what was reported is what is noted
noted_is : (came : Came) (s : StepsView) → came_in (noted came s) ≡ came
noted_is (Came.Turn m) s = refl
noted_is (Came.Entry m) s = refl
noted_is Came.Clock s = refl
noted_is (Came.Lost from to) s = refl
noted_is (Came.Full from to) s = refl
noted_is (Came.Missed from to) s = refl
noted_is (Came.Unheard m) s = refl
noted_is Came.Rest s = refl
noted_is Came.Exhausted s = refl

-- a step that is noted, if it is reported
abbrev NotesIf : Option Came → StepsView → StepsView → Type 0
NotesIf came s new = MatchOption came (new ≡ s) (λ (one : Came). new ≡ noted one s)

module _ (x : Outcome) (reported : Bool) (s new : StepsView) (net : NetworkView) (does : DoesStep x s.net net) (is : reported ≡ is_some (came_of x))
    (notes : NotesIf (came_of x) (record s { net = net }) new) where
  came_is : came_if reported new ≡ came_of x
  came_is = by_came (came_of x) reported is notes
    where
      by_came : (came : Option Came) (reported : Bool) → reported ≡ is_some came → NotesIf came (record s { net = net }) new → came_if reported new ≡ came
      by_came None reported is notes = rw is refl
      by_came (Some came) reported is notes = rw is (ap Some (ap came_in notes ∙ noted_is came (record s { net = net })))

  pub steps_by : (voices : Voices) → s.sending ≡ None → s.phase ≡ Phase.Working → (x ≡ Outcome.Rest → s.waiting ≡ None) →
      StepsBy (came_if reported new) s new voices voices
  steps_by voices none works waits = rw came_is (by_came (came_of x) refl notes)
    where
      by_came : (came : Option Came) → came ≡ came_of x → NotesIf came (record s { net = net }) new → StepsBy came s new voices voices
      by_came None is same = passes_step x s new net voices none works does is same
      by_came (Some came) is noted_so = goes_step x came s new net voices none does is waits noted_so

  -- where no mote is at work, nothing of a mote is reported
  pub apart_if : s.net.active ≡ None → is_of_mote_if (came_if reported new) ≡ false
  apart_if idle = ap is_of_mote_if came_is ∙ none_of_mote x (does.work ∙ ap is_some idle)

  pub nearer_if : left_at_work net ≤ most_left_at_work → is_open_if (came_if reported new) ≡ false → is_end_if (came_if reported new) ≡ false →
      left_to_do new < left_to_do s
  nearer_if few closed on =
      let left = left_by (came_of x) notes in
      let fewer = less s (record s { net = net }) few refl x does (closed_if x (came_if reported new) came_is closed) (sym (ends_work x) ∙ (ap is_end_if (sym came_is) ∙ on)) in
      omega (arith, left, fewer)
    where
      left_by : (came : Option Came) → NotesIf came (record s { net = net }) new → left_to_do new ≡ left_to_do (record s { net = net })
      left_by None same = ap left_to_do same
      left_by (Some came) noted_so = ap left_to_do noted_so

pub err_on : {T : Type 0} (r : Result T NetworkFault) (P : NetworkFault → Type 0) (cause : NetworkFault) → IsErrAnd r (λ (handed : NetworkFault). handed ≡ cause) →
    P cause → IfErr r P
err_on (Ok x) P cause is p = tt
err_on (Err handed) P cause is p = subst P (sym is) p

-- the mote at work does a step
does_work : (m : ℕ) (next : Next) (old new : NetworkView) → old.active ≡ Some m → Worked m next old new → DoesStep (Outcome.Worked m next) old new
does_work m next old new active worked = record {
  steps = worked;
  due = λ idle. let e : None ≡ Some m = sym idle ∙ active in absurd (cc);
  work = sym (ap is_some active);
}

-- no turn sends a frame
unsent : (m : ℕ) (mote : Option SessionView) (p : Pid) (o : Origin) (s : Stimulus) (c : Call) (one : SessionView) → mote ≡ Some one →
    one.last ≡ Some (Entry.Turn p o s c) → sending_by m mote ≡ None
unsent m mote p o s c one there is = rw (there, is) refl

noted_as : (s : StepsView) (net : NetworkView) (came : Came) (sending : Option Sending) → sending ≡ s.sending → Phase.Working ≡ s.phase →
    record s { net = net; last = came } ≡ record s { net = net; last = came; sending = sending; phase = Phase.Working }
noted_as s net came sending one two = rw (one, two) refl

-- a turn whose call the caller makes is an entry
pub goes_turn : (m : ℕ) (s new : StepsView) (net : NetworkView) (before after : Voices) → s.sending ≡ None → (turn : TakesTurn m s.net net) →
    DoesStep (Outcome.Worked m Next.Turn) s.net turn.mid → IsActiveCall turn.mid net before after →
    new ≡ noted (Came.Entry m) (record s { net = net }) → GoesBy (Came.Entry m) s new before after
goes_turn m s new net before after none turn does spoke is =
    let active : turn.mid.active ≡ Some m = ap (λ (v : NetworkView). v.active) turn.opens.result in
    subst (λ (v : StepsView). GoesBy (Came.Entry m) s v before after) (sym is)
    (record {
      goes = record {
        moves = Move.Step (Outcome.Worked m Next.Turn) turn.mid ∷ Move.Submit turn.call net ∷ [];
        leads = (does, (turn.submitted, refl));
        text = λ quiet. rw (none_sent s none quiet) (append-nil _ ∙ submitted_is quiet m turn.call turn.mid net active turn.submitted);
        inputs = refl;
        last = refl;
        phase = refl;
        is_came = tt;
        links = refl;
        untold = refl;
        answered = λ closed. refl;
      };
      calls = (before, refl, (after, spoke, refl));
      sending = refl;
    })

pub goes_spoken : (m : ℕ) (s new : StepsView) (net : NetworkView) (before after : Voices) → s.sending ≡ None → s.phase ≡ Phase.Working → s.net.active ≡ Some m →
    TakesTurn m s.net net → ((one : SessionView) → slice_get net.motes m ≡ Some one → SpokeLast m one.last before after) →
    new ≡ record s { net = net; last = Came.Entry m } → GoesBy (Came.Entry m) s new before after
goes_spoken m s new net before after none works active turn speaks is =
    let opened : turn.mid.active ≡ Some m = ap (λ (v : NetworkView). v.active) turn.opens.result in
    let there = there_submitted m turn.call turn.mid net opened turn.submitted in
    let mote = turn.submitted.submitted.after in
    let spoke = speaks mote there in
    goes_turn m s new net before after none turn (does_work m Next.Turn s.net turn.mid active turn.opens)
    (record { m = m; active = opened; mote = mote; there = there; spoke = spoke })
    (is ∙ noted_as s net (Came.Entry m) (sending_by m (slice_get net.motes m))
    (unsent m (slice_get net.motes m) spoke.process spoke.origin spoke.stimulus spoke.call mote there spoke.is_last ∙ sym none) (sym works))

entry_noted : (m : ℕ) (s new : StepsView) (net : NetworkView) → s.phase ≡ Phase.Working →
    new ≡ record s { net = net; last = Came.Entry m; sending = sending_of (Came.Entry m) net } → new ≡ noted (Came.Entry m) (record s { net = net })
entry_noted m s new net works is = is ∙ noted_phase s net (Came.Entry m) (sending_of (Came.Entry m) net) (sym works)
  where
    noted_phase : (s : StepsView) (net : NetworkView) (came : Came) (sending : Option Sending) → Phase.Working ≡ s.phase →
        record s { net = net; last = came; sending = sending } ≡ record s { net = net; last = came; sending = sending; phase = Phase.Working }
    noted_phase s net came sending same = rw same refl

-- another entry
pub goes_entry : (m : ℕ) (s new : StepsView) (net : NetworkView) (before after : Voices) → s.sending ≡ None → s.phase ≡ Phase.Working → s.net.active ≡ Some m →
    Worked m Next.Entry s.net net → ((one : SessionView) → slice_get net.motes m ≡ Some one → after ≡ before) →
    new ≡ record s { net = net; last = Came.Entry m; sending = sending_of (Came.Entry m) net } → GoesBy (Came.Entry m) s new before after
goes_entry m s new net before after none works active worked speaks is =
    let w = worked.worked in
    let there = there_after m s.net.motes net.motes w.before w.after w.mote w.others in
    subst (λ (later : Voices). GoesBy (Came.Entry m) s new before later) (sym (speaks w.after there))
    (goes_step (Outcome.Worked m Next.Entry) (Came.Entry m) s new net before none (does_work m Next.Entry s.net net active worked) refl (λ e. absurd (cc))
    (entry_noted m s new net works is))

-- it comes to rest
pub passes_rest : (next : Next) (m : ℕ) (s new : StepsView) (net : NetworkView) (before after : Voices) → s.sending ≡ None → s.phase ≡ Phase.Working →
    s.net.active ≡ Some m → Worked m next s.net net → None ≡ came_of (Outcome.Worked m next) →
    ((one : SessionView) → slice_get net.motes m ≡ Some one → after ≡ before) → new ≡ record s { net = net } → PassesBy s new before after
passes_rest next m s new net before after none works active worked silent speaks is =
    let w = worked.worked in
    let there = there_after m s.net.motes net.motes w.before w.after w.mote w.others in
    subst (λ (later : Voices). PassesBy s new before later) (sym (speaks w.after there))
    (passes_step (Outcome.Worked m next) s new net before none works (does_work m next s.net net active worked) silent is)

-- ---- the input that waits

pub passes_hand : (w : Waiting) (s new : StepsView) (net : NetworkView) (voices : Voices) → s.sending ≡ None → s.phase ≡ Phase.Working → s.waiting ≡ None → IsResting s.net →
    IsNetworkFed w.mote w.input s.net net → new ≡ record s { net = net } →
    PassesBy (record s { waiting = Some w }) new voices voices
passes_hand w s new net voices none works taken rested fed is =
    subst (λ (v : StepsView). PassesBy (record s { waiting = Some w }) v voices voices) (sym is)
    (record {
      way = record {
        moves = Move.Hand w.mote w.input net ∷ [];
        leads = (record { rested = rested; fed = fed }, refl);
        silent = λ quiet. refl;
        inputs = rw taken refl;
        untold = refl;
        answered = refl;
      };
      calls = (voices, refl, refl);
      last = refl;
      links = refl;
      sending = none;
      works = works;
    })

pub is_not : (halted : Bool) → false ≡ not halted → halted ≡ true
is_not true is = refl
is_not false is = absurd (cc)

halted_there : (o : Option SessionView) → is_halted_in o ≡ true → IsSomeAnd o (λ (mote : SessionView). mote.machine.is_halted ≡ true)
halted_there None h = absurd (cc)
halted_there (Some mote) h = h

pub goes_unheard : (w : Waiting) (s new : StepsView) (voices : Voices) → s.sending ≡ None → s.waiting ≡ None → IsResting s.net →
    is_halted_in (slice_get s.net.motes w.mote) ≡ true → s.phase ≡ Phase.Working → new ≡ record s { last = Came.Unheard w.mote } →
    GoesBy (Came.Unheard w.mote) (record s { waiting = Some w }) new voices voices
goes_unheard w s new voices none taken rested halted works is =
    subst (λ (v : StepsView). GoesBy (Came.Unheard w.mote) (record s { waiting = Some w }) v voices voices) (sym is)
    (record {
      goes = record {
        moves = Move.Miss w.mote w.input s.net ∷ [];
        leads = (record { rested = rested; halted = halted_there (slice_get s.net.motes w.mote) halted; result = refl }, refl);
        text = λ quiet. rw none refl;
        inputs = rw taken refl;
        last = refl;
        phase = works;
        is_came = tt;
        links = refl;
        untold = refl;
        answered = λ closed. refl;
      };
      calls = (voices, refl, refl);
      sending = none;
    })

-- ---- what is refused

pub stops_step : (cause : NetworkFault) (s : StepsView) (new : NetworkView) (voices : Voices) → step_refusal s.net ≡ Some cause → new ≡ s.net →
    StopsBy cause s new voices voices
stops_step cause s new voices refuses same =
    subst (λ (net : NetworkView). StopsBy cause s net voices voices) (sym same)
    (record { left = s.waiting; way = moves_nowhere s.net s.waiting; calls = refl; refuses = inl refuses })

pub stops_input : (cause : NetworkFault) (w : Waiting) (s : StepsView) (new : NetworkView) (voices : Voices) → IsResting s.net →
    is_halted_in (slice_get s.net.motes w.mote) ≡ false → feed_refusal w.mote w.input s.net ≡ Some cause → new ≡ s.net →
    StopsBy cause (record s { waiting = Some w }) new voices voices
stops_input cause w s new voices rested up refuses same =
    subst (λ (net : NetworkView). StopsBy cause (record s { waiting = Some w }) net voices voices) (sym same)
    (record { left = Some w; way = moves_nowhere s.net (Some w); calls = refl; refuses = inr (rested, up, refuses) })

pub refused_by : {cause : NetworkFault} {s : StepsView} {new : NetworkView} {before after : Voices} → StopsBy cause s new before after →
    IsRefused (fault_of cause) s.net s.waiting new
refused_by {cause} q = record { left = q.left; way = q.way; cause = cause; refuses = q.refuses; reported = refl }

-- ---- what `next` is made of

-- nobody makes a call
pub no_voices : Voices
no_voices = λ m p stimuli. Call.Wait

-- what was sent is all reported
pub all_reported : {came : Came} {old mid new : StepsView} → mid ≡ record old { sending = None } → losses_left old.sending old.net ≡ [] →
    GoesNext came mid new → GoesNext came old new
all_reported {came} {old} {mid} {new} is none g =
    let net : mid.net ≡ old.net = ap (λ (s : StepsView). s.net) is in
    let told : mid.sending ≡ None = ap (λ (s : StepsView). s.sending) is in
    record {
      moves = g.moves;
      leads = subst (λ (from : NetworkView). Leads from g.moves new.net) net g.leads;
      text = λ quiet.
          rw (none_left old none quiet)
          (ap (λ (from : NetworkView). moves_text quiet from g.moves) (sym net)
          ∙ (ap (λ (lost : List ℕ). lost ++ moves_text quiet mid.net g.moves) (sym (none_sent mid told quiet)) ∙ g.text quiet));
      inputs = g.inputs ∙ ap (λ (s : StepsView). inputs_waiting s.waiting) is;
      last = g.last ∙ ap (λ (s : StepsView). last_after came s.last) is;
      phase = g.phase;
      is_came = g.is_came;
      links = g.links ∙ ap (λ (s : StepsView). s.free_links) is;
      untold = g.untold;
      answered = g.answered;
    }

pub refused_after : {fault : StepsFault} (old mid : StepsView) {new : NetworkView} → mid ≡ record old { sending = None } →
    IsRefused fault mid.net mid.waiting new → IsRefused fault old.net old.waiting new
refused_after {fault} old mid {new} is refused = subst (λ (s : StepsView). IsRefused fault s.net s.waiting new) is refused
