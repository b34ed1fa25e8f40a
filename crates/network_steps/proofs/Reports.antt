-- What a network comes to, and the text of that.
use Rattle.std.proofs.Common.{◌≡◌, ℕ, not, Bool, true, false, List, [], ◌++◌, slice_get, refl, ap, sym, ◌∙◌, append-nil, Option, None, Some, is_some, IfSome, inl}
use Rattle.mote_session.specs.SessionView.{AwaitedCall, SessionView}
use Rattle.mote_session.specs.declared.refusal.SessionRefusal.{SessionRefusal}
use Rattle.network_session.specs.Network.{NetworkView}
use Rattle.network_session.specs.Refusals.{mote_at_work, work_refusal}
use Rattle.network_session.specs.Steps.{IsToldTime}
use Rattle.network_session.specs.declared.fault.NetworkFault.{NetworkFault}
use Rattle.network_steps.specs.NetworkRuns.{IsResting}
use Rattle.network_steps.specs.NetworkText.{if_shown}
use Rattle.network_steps.specs.Lines.{came_line, is_loss, loss_line, losses_left, shown_line, shown_losses}
use Rattle.network_steps.specs.Refusals.{awaited_turn, turn_of}
use Rattle.network_steps.specs.StepsView.{StepsView}
use Rattle.network_steps.specs.Works.{GoesNext, IsCame, IsRefused, MovesSilently, ToldIfBehind, inputs_waiting, is_behind, last_after, phase_after}
use Rattle.network_steps.specs.declared.came.Came.{Came}
use Rattle.network_steps.specs.declared.came.Phase.{Phase}
use Rattle.network_steps.specs.declared.came.Sending.{Sending}
use Rattle.network_steps.specs.declared.came.Waiting.{Waiting}
use Rattle.network_steps.specs.declared.fault.StepsFault.{StepsFault}
use Rattle.network_steps.proofs.GivenInputs.{tells}

-- nothing is left to be reported
abbrev pub HasReported : StepsView → Type 0
HasReported s = (quiet : Bool) → shown_losses quiet s.sending s.net ≡ []

pub none_sent : (s : StepsView) → s.sending ≡ None → HasReported s
none_sent s none = λ quiet. ap (λ (o : Option Sending). shown_losses quiet o s.net) none

none_shown : (shown : Bool) → if_shown shown [] ≡ []
none_shown true = refl
none_shown false = refl

losses_are : (quiet : Bool) (o : Option Sending) (net : NetworkView) → shown_losses quiet o net ≡ if_shown (not quiet) (losses_left o net)
losses_are quiet None net = sym (none_shown (not quiet))
losses_are quiet (Some sending) net = refl

pub none_left : (s : StepsView) → losses_left s.sending s.net ≡ [] → HasReported s
none_left s none = λ quiet. losses_are quiet s.sending s.net ∙ (ap (if_shown (not quiet)) none ∙ none_shown (not quiet))

-- a loss is reported

-- what holds of both kinds of losses
loss_by : (P : Came → Type 0) → ((from to : ℕ) → P (Came.Lost from to)) → ((from to : ℕ) → P (Came.Full from to)) → (came : Came) → is_loss came ≡ true → P came
loss_by P lost full (Came.Lost from to) l = lost from to
loss_by P lost full (Came.Full from to) l = full from to
loss_by P lost full (Came.Turn m) l = absurd (cc)
loss_by P lost full (Came.Entry m) l = absurd (cc)
loss_by P lost full Came.Clock l = absurd (cc)
loss_by P lost full (Came.Missed from to) l = absurd (cc)
loss_by P lost full (Came.Unheard m) l = absurd (cc)
loss_by P lost full Came.Rest l = absurd (cc)
loss_by P lost full Came.Exhausted l = absurd (cc)

pub loss_is_line : (came : Came) (net : NetworkView) → is_loss came ≡ true → loss_line came ≡ came_line came net
loss_is_line came net l = loss_by (λ (c : Came). loss_line c ≡ came_line c net) (λ from to. refl) (λ from to. refl) came l

loss_is_shown : (quiet : Bool) (came : Came) (net : NetworkView) → is_loss came ≡ true → if_shown (not quiet) (loss_line came) ≡ shown_line quiet came net
loss_is_shown quiet came net l =
    loss_by (λ (c : Came). if_shown (not quiet) (loss_line c) ≡ shown_line quiet c net) (λ from to. refl) (λ from to. refl) came l

loss_last : (came before : Came) → is_loss came ≡ true → came ≡ last_after came before
loss_last came before l = loss_by (λ (c : Came). c ≡ last_after c before) (λ from to. refl) (λ from to. refl) came l

loss_phase : (came : Came) → is_loss came ≡ true → Phase.Working ≡ phase_after came
loss_phase came l = loss_by (λ (c : Came). Phase.Working ≡ phase_after c) (λ from to. refl) (λ from to. refl) came l

loss_so : (came : Came) (s : StepsView) → is_loss came ≡ true → IsCame came s
loss_so came s l = loss_by (λ (c : Came). IsCame c s) (λ from to. tt) (λ from to. tt) came l

shown_both : (shown : Bool) (first second : List ℕ) → if_shown shown (first ++ second) ≡ if_shown shown first ++ if_shown shown second
shown_both true first second = refl
shown_both false first second = refl

pub loss_reported : (came : Came) (old new : StepsView) → is_loss came ≡ true →
    new ≡ record old { last = came; sending = new.sending; phase = Phase.Working } →
    losses_left old.sending old.net ≡ loss_line came ++ losses_left new.sending old.net → GoesNext came old new
loss_reported came old new l is text =
    let net : new.net ≡ old.net = ap (λ (s : StepsView). s.net) is in
    record {
      moves = [];
      leads = sym net;
      text = λ quiet.
          append-nil (shown_losses quiet old.sending old.net)
          ∙ (losses_are quiet old.sending old.net
          ∙ (ap (if_shown (not quiet)) text
          ∙ (shown_both (not quiet) (loss_line came) (losses_left new.sending old.net)
          ∙ rw (net, loss_is_shown quiet came old.net l, losses_are quiet new.sending old.net) refl)));
      inputs = ap (λ (s : StepsView). inputs_waiting s.waiting) is;
      last = ap (λ (s : StepsView). s.last) is ∙ loss_last came old.last l;
      phase = ap (λ (s : StepsView). s.phase) is ∙ loss_phase came l;
      is_came = loss_so came new l;
      links = ap (λ (s : StepsView). s.free_links) is;
      untold = refl;
      answered = λ closed. refl;
    }

-- a mote is told the time, if it is behind

pub told_so : (m : ℕ) (old new : NetworkView) (told : Bool) → IsResting old → (slice_get old.motes m ≡ None → ⊥) →
    ((mote : SessionView) → slice_get old.motes m ≡ Some mote → told ≡ is_behind old mote) → (told ≡ true → IsToldTime m old new) →
    (told ≡ false → new ≡ old) → ToldIfBehind m old new
told_so m old new told rested present behind if_told if_untold = by_mote (slice_get old.motes m) refl
  where
    by_mote : (o : Option SessionView) → slice_get old.motes m ≡ o → ToldIfBehind m old new
    by_mote None there = absurd (present there)
    by_mote (Some mote) there =
        record {
          mote = mote;
          there = there;
          told = λ is. let so = behind mote there ∙ is in tells m old new told rested behind so (if_told so);
          untold = λ is. if_untold (behind mote there ∙ is);
        }

-- ---- what is refused

-- no moves
abbrev pub moves_nowhere : (net : NetworkView) (waiting : Option Waiting) → MovesSilently net net waiting waiting
moves_nowhere net waiting = record { moves = []; leads = refl; silent = λ quiet. refl; inputs = refl; untold = refl; answered = refl }

-- a turn awaits its call

turn_refuses : (net : NetworkView) (active : Option ℕ) (turn : AwaitedCall) → turn_of (mote_at_work net active) ≡ Some turn →
    (is_some active ≡ true) × (work_refusal (mote_at_work net active) ≡ Some (NetworkFault.Refused SessionRefusal.AwaitsCall))
turn_refuses net None turn e = absurd (cc)
turn_refuses net (Some m) turn e = (refl, by_mote (slice_get net.motes m) e)
  where
    by_mote : (o : Option SessionView) → turn_of o ≡ Some turn → work_refusal o ≡ Some (NetworkFault.Refused SessionRefusal.AwaitsCall)
    by_mote None e = absurd (cc)
    by_mote (Some mote) e = rw e refl

pub turn_refused : {T : Type 0} (r : Option T) (awaited : T → AwaitedCall) (net : NetworkView) (waiting : Option Waiting) →
    IfSome r (λ (one : T). awaited_turn net ≡ Some (awaited one)) → is_some r ≡ true →
    IsRefused (StepsFault.Refused SessionRefusal.AwaitsCall) net waiting net
turn_refused None awaited net waiting turn there = absurd (cc)
turn_refused (Some one) awaited net waiting turn there =
    let both = turn_refuses net net.active (awaited one) turn in
    record {
      left = waiting;
      way = moves_nowhere net waiting;
      cause = NetworkFault.Refused SessionRefusal.AwaitsCall;
      refuses = inl (rw both.0 both.1);
      reported = refl;
    }
