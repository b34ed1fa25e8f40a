-- What was done on arguments, by the result of a mote's run.
use Rattle.std.proofs.Common.{◌≡◌, ℕ, Bool, List, Option, refl, sym, ap, subst, inl, inr, Result, Ok, Err}
use Rattle.mote_run.proofs.HandedOn.{holding, nothing_ran}
use Rattle.mote_run.specs.RunText.{Exchanged}
use Rattle.mote_shell.specs.NamedRuns.{HasRunNamed, NamesMote, OfRun, Refuses}
use Rattle.command_line.specs.Statuses.{IsShown, read_failed, write_failed}
use Rattle.command_line.specs.declared.failure.Failure.{Failure}
use Rattle.command_line.specs.declared.refusal.ParserText.{ParserText}
use Rattle.mote_text.specs.declared.script.End.{End}
use Rattle.mote_types.specs.Applications.{Says}
use Rattle.mote_types.specs.declared.fault.MoteFault.{MoteFault}
use Rattle.mote_types.specs.declared.fault.RunFault.{RunFault}

module _ {A : Type 0} (by_name : List ℕ → Option A) (words : List (List ℕ)) where
  refusal_is_other : (failure : Failure) → Refuses by_name words failure → failure ≡ read_failed → ⊥
  refusal_is_other failure refused same = absurd (subst (Refuses by_name words) same refused)

  -- a refusal of arguments is no result of a run
  refused_no_run : (P : Result End RunFault → Type 0) (failure : Failure) → Refuses by_name words failure → OfRun (Err failure) P
  refused_no_run P (Failure.Mote (MoteFault.Run fault)) refused = absurd refused
  refused_no_run P failure refused = tt

  -- a request for a text names no mote
  asks_for_text : (text : ParserText) → Refuses by_name words (Failure.Request text) → NamesMote by_name words → ⊥
  asks_for_text text refused names = let taken = names.applications.taken in rw taken at refused.0

abbrev error_of : Result End Failure → Failure
error_of (Ok end) = write_failed
error_of (Err failure) = failure

module _ {A : Type 0} (by_name : List ℕ → Option A) (says : A → Says) (words : List (List ℕ)) where
  -- if the arguments name no mote, nothing ran
  pub ran_nothing : {taken given : List ℕ} {is_ended : Bool} (failure : Failure) → Refuses by_name words failure →
      Exchanged taken taken is_ended given given (HasRunNamed by_name says words (Err failure))
  ran_nothing failure refused =
      let none = nothing_ran {failed = read_failed} (Err failure) refl
      (λ is. refusal_is_other by_name words failure refused (ap error_of is)) in
      holding none (record { ran = none.holds; promise = λ names. refused_no_run by_name words _ failure refused })

  -- a text that could not be shown is a failed write
  pub not_shown : {taken_old taken_new : List ℕ} {is_ended : Bool} {given_old given_new : List ℕ} (text : ParserText)
      → Refuses by_name words (Failure.Request text) →
      Exchanged taken_old taken_new is_ended given_old given_new (HasRunNamed by_name says words (Err (Failure.Request text))) →
      Exchanged taken_old taken_new is_ended given_old given_new (HasRunNamed by_name says words (Err write_failed))
  not_shown text refused x = holding x (record {
    ran = record { text = tt; front = x.holds.ran.front; after_read_fault = λ is. absurd (cc) };
    promise = λ names. absurd (asks_for_text by_name words text refused names);
  })

-- what holds of an outcome and of a failed write holds once a text was shown
pub of_shown : (P : Result End Failure → Type 0) (outcome shown : Result End Failure) → P outcome
    → ((text : ParserText) → outcome ≡ Err (Failure.Request text) → P (Err (Failure.Request text)) → P (Err write_failed))
    → IsShown outcome shown → P shown
of_shown P (Err (Failure.Request text)) shown holds failed (inl same) = subst P (sym same) holds
of_shown P (Err (Failure.Request text)) shown holds failed (inr lost) = subst P (sym lost) (failed text refl holds)
of_shown P outcome shown holds failed same = subst P (sym same) holds
