-- The call of a turn is made in its buffer.
use Rattle.std.proofs.Common.{◌≡◌, ◌≤◌, ◌+◌, ◌∙◌, ℕ, ap, refl, None, Some}
use Rattle.mote_types.specs.declared.entry.Entry.{Entry}
use Rattle.mote_types.specs.declared.event.Pid.{Pid}
use Rattle.kernel_core.specs.Calls.{after_call}
use Rattle.kernel_core.specs.Code.OpenTurns.{AwaitingMote}
use Rattle.kernel_core.specs.Code.Steps.{entry_of}
use Rattle.kernel_core.specs.declared.turn.Turn.{Turn}
use Rattle.mote_session.specs.Code.Places.{session_view}
use Rattle.mote_session.specs.Code.Working.{MakesCall}
use Rattle.mote_session.specs.Voices.{IsCall, SpokeLast, Voices}
use Rattle.mote_session.specs.declared.last_entry.LastEntry.{LastEntry}

pub makes_call : (old new : AwaitingMote) (turn made taken working : Turn) (other : Entry) (last : LastEntry) (pid : Pid) →
    old.turn ≡ Some pid → turn.pid ≡ pid → made ≡ record turn { call = made.call } →
    new.mote.machine ≡ after_call made.call pid.0 old.mote.machine → new.turn ≡ None →
    new.mote.machine.clock ≡ old.mote.machine.clock → new.mote.inputs ≡ old.mote.inputs → new.mote.entries_left ≤ old.mote.entries_left + 1 →
    MakesCall (session_view old turn taken other last) (session_view new working made other LastEntry.Turn)
makes_call old new turn made taken working other last pid opened process kept machine closed clock inputs left = record {
  call = made.call;
  submitted = record {
    turn = record { process = pid; origin = turn.origin; stimulus = turn.stimulus };
    awaited = rw opened refl;
    machine = machine;
    last =
        ap (λ (t : Turn). Some (entry_of t)) kept
        ∙ ap (λ (p : Pid). Some (Entry.Turn p turn.origin turn.stimulus made.call)) process;
    closed = rw closed refl;
    left = left;
  };
  same = (inputs, clock);
}

pub spoke_last : (m : ℕ) (turn made : Turn) (pid : Pid) (before after : Voices) → turn.pid ≡ pid → made ≡ record turn { call = made.call } →
    IsCall m pid.0 turn.stimulus made.call before after → SpokeLast m (Some (entry_of made)) before after
spoke_last m turn made pid before after process kept is = record {
  process = pid;
  origin = turn.origin;
  stimulus = turn.stimulus;
  call = made.call;
  is_last =
      ap (λ (t : Turn). Some (entry_of t)) kept
      ∙ ap (λ (p : Pid). Some (Entry.Turn p turn.origin turn.stimulus made.call)) process;
  is_call = is;
}
