-- Worked examples: the lines of a script, and how a run can end.
use Rattle.std.specs.Fmt.{digits}
use Rattle.std.proofs.Common.{◌≡◌, ◌^◌, [], ◌∷◌, ◌∙◌, ℕ, Bool, List, codes, inl, inr, refl, subst, sym, Err, None, Ok, Option, Result, Some, slice_get}
use Rattle.mote_text.specs.declared.script.End.{End}
use Rattle.mote_text.specs.EntryText.{line_of}
use Rattle.mote_text.specs.Script.{read_line}
use Rattle.network_session.specs.Network.{NetworkView}
use Rattle.network_session.specs.declared.fault.NetworkFault.{NetworkFault}
use Rattle.mote_types.specs.declared.entry.Input.{Input}
use Rattle.mote_session.specs.SessionView.{AwaitedCall, SessionView}
use Rattle.mote_session.specs.Voices.{Voices}
use Rattle.mote_session.specs.declared.refusal.SessionRefusal.{SessionRefusal}
use Rattle.mote_types.specs.declared.call.Call.{Call}
use Rattle.mote_types.specs.declared.entry.Entry.{Entry}
use Rattle.mote_types.specs.declared.event.Origin.{Origin}
use Rattle.mote_types.specs.declared.event.Pid.{Pid}
use Rattle.mote_types.specs.declared.event.Stimulus.{Stimulus}
use Rattle.network_session.specs.Happenings.{Happening}
use Rattle.network_run.specs.Voices.{MakeTheCalls}
use Rattle.network_session.specs.declared.outcome.Outcome.{Outcome}
use Rattle.network_run.specs.NetworkRunText.{AwaitsNone, CanEnd, HasRun, IsAtStart, IsTooMuch, NetworkRan, ending_text}
use Rattle.mote_text.specs.Script.{script_lines}
use Rattle.network_run.specs.declared.fault.NetworkRunFault.{NetworkRunFault}
use Rattle.network_steps.specs.NetworkRuns.{IsResting}
use Rattle.network_run.specs.Outside.{AreInTurn, Outside, next_refusal}
use Rattle.network_steps.specs.NetworkScript.{read_network_lines}
use Rattle.network_run.specs.Stepper.{AwaitsOrIsFull, IsReadyStepper, NoneWaits}
use Rattle.network_steps.specs.StepsView.{StepsView}
use Rattle.network_steps.specs.declared.came.Phase.{Phase}
use Rattle.network_steps.specs.declared.came.Waiting.{Waiting}
use Rattle.network_steps.specs.declared.fault.StepsFault.{StepsFault}
use Rattle.network_steps.specs.declared.input.NetworkInput.{NetworkInput}

-- a newline ends a line, and the last line may have none
lines : (script_lines (codes "tick 3\n\n# x\n") ≡ codes "tick 3" ∷ [] ∷ codes "# x" ∷ []) × (script_lines (codes "a\nb") ≡ codes "a" ∷ codes "b" ∷ [])
    × (script_lines (codes "\n") ≡ [] ∷ []) × (script_lines [] ≡ [])
lines = (refl, refl, refl, refl)

-- lines after a malformed one say nothing
said : read_network_lines 1 4 (script_lines (codes "tick 3\ntock\ntick 4\n")) ≡ (NetworkInput.Tick 3 ∷ [], End.BadLine 5)
unfolding read_line
said = refl

endings : (ending_text None ≡ []) × (ending_text (Some (Ok (End.BadLine 5))) ≡ codes "bad line 5\n")
    × (ending_text (Some (Err NetworkFault.TooLong)) ≡ [])
unfolding line_of digits
endings = (refl, refl, refl)

module _ (net : NetworkView) where
  -- a run doesn't finish while anything is left, and no run on lines ends as another one
  left_over : (next : Outside) → CanEnd net (next ∷ []) End.Finished End.Finished → ⊥
  left_over next can = let e = can.none_left in absurd (cc)

  other_end : CanEnd net [] (End.BadLine 5) End.Finished → ⊥
  other_end can = let e = can.says in absurd (cc)

-- the first mote gets the time before its own input; not before one of the second mote, nor of all, nor twice, nor at the end
module _ (input : Input) where
  in_turn : AreInTurn (Outside.Time 0 ∷ Outside.Given (NetworkInput.ForMote 1 input) ∷ [])
  in_turn = (refl, tt)

  for_another : AreInTurn (Outside.Time 0 ∷ Outside.Given (NetworkInput.ForMote 2 input) ∷ []) → ⊥
  for_another turn = let e = turn.0 in absurd (cc)

  for_all : AreInTurn (Outside.Time 0 ∷ Outside.Given (NetworkInput.Tick 3) ∷ []) → ⊥
  for_all turn = turn

  twice : AreInTurn (Outside.Time 0 ∷ Outside.Time 0 ∷ []) → ⊥
  twice turn = turn

  at_the_end : AreInTurn (Outside.Given (NetworkInput.ForMote 1 input) ∷ Outside.Time 0 ∷ []) → ⊥
  at_the_end turn = turn

-- the clock goes to 2^62, and not further; nothing is refused where nothing is left
module _ (net : NetworkView) (idle : net.active ≡ None) where
  too_long : net.target ≡ 2 ^ 62 → next_refusal (Outside.Given (NetworkInput.Tick 1) ∷ []) net ≡ Some NetworkFault.TooLong
  too_long most = rw (idle, most) refl

  last_moment : net.target ≡ 0 → next_refusal (Outside.Given (NetworkInput.Tick 9) ∷ []) net ≡ None
  last_moment most = rw (idle, most) refl

  nothing_left : next_refusal [] net ≡ None
  nothing_left = refl

-- a halt that isn't due is no end of a network that rests
module _ (net : NetworkView) (rests : IsResting net) where
  no_halt : (left : List Outside) (said : End) → CanEnd net left said End.Halted → ⊥
  no_halt left said exhausted = let e : Outcome.Rest ≡ Outcome.Exhausted = sym rests.due ∙ exhausted.due in absurd (cc)

-- what a run refuses whose motes have just booted
too_much : IsTooMuch NetworkFault.TooLong × IsTooMuch (NetworkFault.Refused SessionRefusal.TooManyInputs)
too_much = (inl refl, inr refl)

not_too_much : (fault : NetworkFault) → (fault ≡ NetworkFault.TooLong → ⊥) → (fault ≡ NetworkFault.Refused SessionRefusal.TooManyInputs → ⊥) →
    IsTooMuch fault → ⊥
not_too_much fault long many (inl is) = long is
not_too_much fault long many (inr is) = many is

module _ (quiet : Bool) (start : NetworkView) (voices : Voices) (script : List NetworkInput × End) (written : List ℕ) (booted : IsAtStart start) where
  refuses : NetworkFault → Type 0
  refuses fault = HasRun quiet start voices script written (Err (NetworkRunFault.Refused fault))

  -- no input comes too early for its mote, and no turn is left without its call
  no_early_input : refuses NetworkFault.Behind → ⊥
  unfolding refuses
  no_early_input run = not_too_much NetworkFault.Behind (λ e. absurd (cc)) (λ e. absurd (cc)) (run.1 booted)

  no_open_turn : refuses (NetworkFault.Refused SessionRefusal.AwaitsCall) → ⊥
  unfolding refuses
  no_open_turn run = not_too_much (NetworkFault.Refused SessionRefusal.AwaitsCall) (λ e. absurd (cc)) (λ e. absurd (cc)) (run.1 booted)

-- a run leaves no turn without its call
module _ (quiet : Bool) (start : NetworkView) (voices : Voices) (script : List NetworkInput × End) (written rest : List ℕ)
    (ending : Option (Result End NetworkFault)) (run : NetworkRan quiet start voices script written rest ending) where
  left_open : (mote : SessionView) (turn : AwaitedCall) → AwaitsNone start → slice_get run.net.motes 0 ≡ Some mote → mote.turn ≡ Some turn → ⊥
  left_open mote turn none there open_turn = let e : Some turn ≡ None = sym open_turn ∙ run.answered none 0 mote there in absurd (cc)

-- a call that the application doesn't make
module _ (voices : Voices) (pid : Pid) (origin : Origin) (stimulus : Stimulus) (call other : Call) where
  another_call : voices 0 pid.0 (stimulus ∷ []) ≡ other → (other ≡ call → ⊥) →
      MakeTheCalls voices (Happening.Entry 0 (Entry.Turn pid origin stimulus call) ∷ []) → ⊥
  another_call says apart calls = apart (sym says ∙ calls 0 [] [] pid origin stimulus call refl)

-- at rest no input waits for a network that is ready; and it doesn't refuse because there is no such mote
at_rest : (s : StepsView) (waiting : Waiting) → IsReadyStepper s → s.phase ≡ Phase.Resting → s.waiting ≡ Some waiting → ⊥
at_rest s waiting ready rests waits =
    let none = (subst (λ (p : Phase). NoneWaits p s) rests ready.waits).1 in
    absurd (let e : None ≡ Some waiting = sym none ∙ waits in cc)

no_mote : AwaitsOrIsFull StepsFault.NoMote → ⊥
no_mote (inl e) = absurd (cc)
no_mote (inr e) = absurd (cc)
