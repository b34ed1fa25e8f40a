use Rattle.std.proofs.Common.{◌≡◌, Bool, true, false, List, ◌∷◌, ◌++◌, refl, sym, subst, ◌∙◌, arith, length-append, Option, Some, None, is_none, not, ◌&&◌, ◌||◌, []}
use Rattle.std.proofs.lemmas.Bool.Decides.{nat_tests}
use Rattle.mote_types.specs.Applications.{Applications}
use Rattle.mote_types.specs.declared.entry.Entry.{Entry}
use Rattle.process_core.specs.Idle.{is_idle}
use Rattle.kernel_core.specs.Code.Steps.{MakesEntry}
use Rattle.kernel_core.specs.Machine.{Machine}
use Rattle.kernel_core.specs.Run.{choices_after, at_start}
use Rattle.mote_session.specs.Answered.{AnswersAs}
use Rattle.mote_session.specs.History.{History, last_entry, with_entry}
use Rattle.mote_session.specs.SessionRuns.{HasComeTo, IsHistoryOf, StandsAt}
use Rattle.mote_session.specs.SessionView.{AwaitedCall, SessionView}
use Rattle.mote_session.specs.Steps.{HasSameInputs, with_made}
use Rattle.mote_session.specs.declared.session.Next.{Next}
use Rattle.mote_session.proofs.Answering.{answers_before}
use Rattle.mote_session.proofs.Leading.{leads_fed, leads_on, makes_after, running_at, silent_from}
use Rattle.mote_session.proofs.laws.histories_go_on.Goals as goal

last_is : (entries : List Entry) (entry : Entry) → last_entry (entries ++ entry ∷ []) ≡ Some entry
last_is [] entry = refl
last_is (first ∷ []) entry = refl
last_is (first ∷ next ∷ entries) entry = last_is (next ∷ entries) entry

rest_is : (turn : Option AwaitedCall) (halted idle : Bool) → (is_none turn && (not halted && idle)) ≡ true →
    (turn ≡ None) × (halted ≡ false) × ((halted || (not halted && idle)) ≡ true)
rest_is turn halted idle h = grind (arith, nat_tests)

module _ {history : History} {old new : SessionView} (is : IsHistoryOf history old) (same : HasSameInputs old new) where
  -- an entry is made from the machine that the entries before it lead to
  after_entry : (before : Machine) (entry : Entry) → HasComeTo history before → new.turn ≡ None → new.last ≡ Some entry →
      ((says : Applications) → AnswersAs says (history.entries ++ entry ∷ []) →
      MakesEntry (choices_after says history.entries) before entry new.machine) →
      IsHistoryOf (with_entry entry history) new
  after_entry before entry come closed last makes = record {
    bootable = is.bootable;
    stands = rw closed (λ says answers.
        leads_on says (at_start history.config) (running_at history.entries before)
        (running_at (history.entries ++ entry ∷ []) new.machine) history.inputs
        (come says (answers_before says history.entries entry answers))
        (makes_after says history.entries before new.machine entry (makes says answers)));
    inputs = same.0 ∙ is.inputs;
    last = grind (arith, last_is);
  }

pub returns-clause-submit : goal.returns-clause-submit
returns-clause-submit c history call old new is answered same =
    let turn = answered.turn in
    let at_turn : StandsAt history (Some turn) old.machine = rw answered.awaited at is.stands in
    rw answered.awaited (after_entry is same at_turn.0 (Entry.Turn turn.process turn.origin turn.stimulus call) at_turn.1
    answered.closed answered.last (λ says answers.
    rw answered.machine (rw (answers history.entries [] turn.process turn.origin turn.stimulus call refl)
    at (at_turn.2 (choices_after says history.entries)))))

pub returns-clause-next : goal.returns-clause-next
returns-clause-next c history Next.Turn old new is closed opens same =
    let opened = opens.opened in record {
      bootable = is.bootable;
      stands = rw opened (old.machine, (rw closed at is.stands), opens.awaits);
      inputs = same.0 ∙ is.inputs;
      last = λ none. absurd (cc);
    }
returns-clause-next c history Next.Entry old new is closed makes same =
    subst (λ (last : Option Entry). IsHistoryOf (with_made Next.Entry last history) new) (sym makes.last)
    (after_entry is same old.machine makes.entry (rw closed at is.stands) makes.closed makes.last
    (λ says answers. makes.made (choices_after says history.entries)))
returns-clause-next c history Next.Rest old new is closed rested same =
    let come : HasComeTo history old.machine = rw closed at is.stands in record {
      bootable = is.bootable;
      stands = rw rested.closed (λ says answers.
          let goes = (rested.goes (choices_after says history.entries)).before in
          leads_on says (at_start history.config) (running_at history.entries old.machine)
          (running_at history.entries new.machine) history.inputs (come says answers)
          (goes.count, silent_from says history.entries goes.count old.machine new.machine goes.steps));
      inputs = same.0 ∙ is.inputs;
      last = λ none. rested.last ∙ is.last closed;
    }
returns-clause-next c history Next.Halted old new is closed halted same = record {
  bootable = is.bootable;
  stands = rw (halted.closed, halted.machine) (rw closed at is.stands);
  inputs = same.0 ∙ is.inputs;
  last = λ none. halted.last ∙ is.last closed;
}

pub returns-clause-input : goal.returns-clause-input
returns-clause-input c history input old new is at_rest fed =
    let rest = rest_is old.turn old.machine.is_halted (is_idle old.machine.scheduler) at_rest in
    let come : HasComeTo history old.machine = rw rest.0 at is.stands in record {
      bootable = is.bootable;
      stands = rw (fed.closed, fed.machine) (λ says answers.
          leads_fed says (at_start history.config) (running_at history.entries old.machine) history.inputs input rest.2 rest.1
          (come says answers));
      inputs = grind (arith, length-append);
      last = grind arith;
    }
