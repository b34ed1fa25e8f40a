-- The runner's boxes are the applications that the arguments name, so their run is the one that was asked for.
use Rattle.std.proofs.Common.{◌≡◌, ℕ, Bool, List, Option, Result, Ok, Err, length, inl}
use Rattle.std.specs.Result.{IsErrAnd}
use Rattle.mote_run.specs.Code.Runs as of_boxes
pub use Rattle.mote_run.proofs.Boxed.{AreBoxed, all_boxed, one_more_boxed}
use Rattle.mote_run.proofs.Boxed.{Boxes}
use Rattle.mote_run.proofs.HandedOn.{holding}
use Rattle.mote_run.specs.RunText.{Exchanged}
use Rattle.mote_shell.proofs.NamedRuns.{ran_nothing}
use Rattle.command_line.specs.CommandLine as of_words
use Rattle.mote_shell.specs.NamedRuns.{HasRunAs, HasRunNamed, IsAnswer, IsOutcome, Refuses, config_of}
use Rattle.command_line.specs.Statuses.{failure_in_words, out_of_memory}
use Rattle.command_line.specs.declared.failure.Failure.{Failure}
use Rattle.command_line.specs.declared.named.Named.{Named}
use Rattle.command_line.specs.declared.refusal.Refusal.{Refusal}
use Rattle.mote_text.specs.declared.script.End.{End}
use Rattle.mote_types.specs.Applications.{Says, says_of}
use Rattle.mote_types.specs.declared.fault.BootFault.{BootFault}
use Rattle.mote_types.specs.declared.fault.MoteFault.{MoteFault}
use Rattle.mote_types.specs.declared.fault.RunFault.{RunFault}

-- what a runner returns, once it has named what the arguments name
module _ {A : Type 0} (by_name : List ℕ → Option A) (others : A → Says) (words : List (List ℕ)) where
  -- the run of the boxes is the run that the arguments name
  pub run_of_words : {B : Type 0} {says : B → Says} {taken_old taken_new : List ℕ} {is_ended : Bool} {given_old given_new : List ℕ}
      (named : Named A) (lent : List B) (result : Result End Failure) →
      named ≡ of_words.named_in by_name words → Boxes says others lent named.applications.items →
      Exchanged taken_old taken_new is_ended given_old given_new
      (HasRunAs (of_boxes.config_of named.sizes (length lent)) (says_of says lent) named.quiet result) →
      Exchanged taken_old taken_new is_ended given_old given_new (HasRunNamed by_name others words result)
  run_of_words named lent result is boxes run =
      let x = rw (boxes.same, boxes.as_many, is) at run in
      holding x (record { ran = x.holds.ran; promise = λ names. x.holds.promise })

  allowed : (result : Result End Failure) → of_words.NamesApplications by_name words
      → IsAnswer (config_of (of_words.named_in by_name words)) result → IsOutcome by_name words result
  allowed (Ok end) names bootable = record { applications = names; bootable = bootable }
  allowed (Err (Failure.Mote (MoteFault.Run RunFault.Read))) names bootable = record { applications = names; bootable = bootable }
  allowed (Err (Failure.Mote (MoteFault.Run RunFault.Write))) names bootable = inl (record { applications = names; bootable = bootable })
  allowed (Err (Failure.Mote (MoteFault.Boot BootFault.BadSizes))) names bad = (names, bad)
  allowed (Err (Failure.Mote (MoteFault.Boot BootFault.Memory))) names anything = tt
  allowed (Err failure) names never = absurd never

  pub outcome_of_words : {B : Type 0} {says : B → Says} (named : Named A) (lent : List B) (result : Result End Failure)
      → of_words.NamesApplications by_name words → named ≡ of_words.named_in by_name words
      → Boxes says others lent named.applications.items → IsAnswer (of_boxes.config_of named.sizes (length lent)) result
      → IsOutcome by_name words result
  outcome_of_words named lent result names is boxes answer = allowed result names (rw (boxes.as_many, is) at answer)

  refused_as : (refusal : Refusal) → of_words.Refuses by_name words refusal → Refuses by_name words (failure_in_words refusal)
  refused_as (Refusal.Request text) refused = refused
  refused_as refusal refused = refused

  -- nothing ran if the arguments name nothing, or there is no memory
  module _ {taken given : List ℕ} {is_ended : Bool} where
    pub nothing_named : (refusal : Refusal) (result : Result End Failure) → of_words.Refuses by_name words refusal
        → IsErrAnd result (λ failure. failure ≡ failure_in_words refusal) →
        Exchanged taken taken is_ended given given (HasRunNamed by_name others words result)
    nothing_named refusal (Ok end) refused is = absurd is
    nothing_named refusal (Err failure) refused is =
        rw is (ran_nothing by_name others words (failure_in_words refusal) (refused_as refusal refused))

    pub no_memory : (result : Result End Failure) → IsErrAnd result (λ failure. failure ≡ out_of_memory)
        → Exchanged taken taken is_ended given given (HasRunNamed by_name others words result)
    no_memory (Ok end) is = absurd is
    no_memory (Err failure) is = rw is (ran_nothing by_name others words out_of_memory tt)
