-- Applications that make the calls of some entries.
use Rattle.std.proofs.Common.{◌≡◌, ◌-◌, ℕ, List, ◌∷◌, ◌++◌, length, refl, append_assoc, arith, []}
use Rattle.std.proofs.lemmas.Bool.Decides.{nat_tests}
use Rattle.std.proofs.lemmas.List.{length-append}
use Rattle.std.proofs.lemmas.List.Elements.{filter_map-append}
use Rattle.mote_types.specs.Applications.{Applications}
use Rattle.mote_types.specs.declared.call.Call.{Call}
use Rattle.mote_types.specs.declared.entry.Entry.{Entry}
use Rattle.mote_types.specs.declared.event.Origin.{Origin}
use Rattle.mote_types.specs.declared.event.Pid.{Pid}
use Rattle.mote_types.specs.declared.event.Stimulus.{Stimulus}
use Rattle.kernel_core.specs.Run.{heard}
use Rattle.mote_session.specs.Answered.{AnswersAs, call_at, call_of, calls_of, replayed}

calls_heard : (p : ℕ) (entries : List Entry) → length (heard p entries) ≡ length (calls_of p entries)
calls_heard p [] = refl
calls_heard p (entry ∷ entries) = let same = calls_heard p entries in grind (arith, nat_tests, same)

call_after : (calls : List Call) (call : Call) (later : List Call) → call_at (length calls) (calls ++ call ∷ later) ≡ call
call_after [] call later = refl
call_after (first ∷ calls) call later = call_after calls call later

one_more_heard : (stimuli : List Stimulus) (stimulus : Stimulus) → length (stimuli ++ stimulus ∷ []) - 1 ≡ length stimuli
one_more_heard stimuli stimulus = grind (arith, length-append)

own_call : (pid : Pid) (origin : Origin) (stimulus : Stimulus) (call : Call) (later : List Entry) →
    calls_of pid.0 (Entry.Turn pid origin stimulus call ∷ later) ≡ call ∷ calls_of pid.0 later
own_call pid origin stimulus call later = grind (arith, nat_tests)

-- applications that replay the calls are such
pub replayed_answers : (entries : List Entry) → AnswersAs (replayed entries) entries
replayed_answers entries before later pid origin stimulus call same =
    rw (
      same,
      filter_map-append (call_of pid.0) before (Entry.Turn pid origin stimulus call ∷ later),
      own_call pid origin stimulus call later,
      one_more_heard (heard pid.0 before) stimulus,
      calls_heard pid.0 before,
    )
    (call_after (calls_of pid.0 before) call (calls_of pid.0 later))

pub answers_before : (says : Applications) (entries : List Entry) (entry : Entry) →
    AnswersAs says (entries ++ entry ∷ []) → AnswersAs says entries
answers_before says entries entry answers before later pid origin stimulus call same = grind (arith, append_assoc)
