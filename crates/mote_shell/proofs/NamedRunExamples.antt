-- Examples: the named configuration, and the outcomes that arguments may have.
use Rattle.std.proofs.Common.{◌≡◌, ◌⊎◌, ◌∙◌, ℕ, List, true, false, refl, subst, ap, arith, inl, inr, Option, Some, None, Result, Ok, Err, []}
use denote.Ref.{Bor}
use Rattle.kernel_core.specs.Machine.{is_bootable}
use Rattle.kernel_core.specs.declared.config.Config.{Config}
use Rattle.mote_run.specs.RunText.{Exchange, HasRunTo}
use Rattle.mote_run.specs.Trace.{RunPromise}
use Rattle.command_line.specs.CommandLine.{AsksForText, NamesApplications, named_in}
use Rattle.mote_shell.specs.NamedRuns.{HasRunNamed, IsAnswer, IsOutcome, IsStatusFor, NamesMote, Refuses, config_of}
use Rattle.command_line.specs.Statuses.{bad_sizes, read_failed, status_of_outcome, write_failed}
use Rattle.command_line.specs.declared.failure.Failure.{Failure}
use Rattle.command_line.specs.declared.named.Named.{Named}
use Rattle.command_line.specs.declared.refusal.ParserText.{ParserText}
use Rattle.mote_text.specs.declared.script.End.{End}
use Rattle.mote_types.specs.Applications.{Says, says_of}
use Rattle.mote_types.specs.declared.fault.RunFault.{RunFault}

small : config_of {A = ℕ}
    (record { applications = record { items = [] }; sizes = record { mmem = 64; heap = 128; header = 8; quota = None }; quiet = true })
    ≡ record { mmem = 64; heap = 128; apps = 0; quota = None; header = 8 }
small = refl

-- sizes without a mote: no multiple of 4, and a quota for two applications and the frames that exceeds managed memory
no_motes : (is_bootable (record { mmem = 62; heap = 128; apps = 0; quota = None; header = 8 }) ≡ false)
    × (is_bootable (record { mmem = 64; heap = 128; apps = 2; quota = Some 24; header = 8 }) ≡ false)
no_motes = (refl, refl)

-- Possible outcomes: a run or its failure only for arguments that name a mote, a refusal only for others.
module _ {A : Type 0} (by_name : List ℕ → Option A) (words : List (List ℕ)) where
  ran : (end : End) → IsOutcome by_name words (Ok end) → NamesMote by_name words
  ran end is = is

  ran_where_reading_failed : IsOutcome by_name words (Err read_failed) → NamesMote by_name words
  ran_where_reading_failed is = is

  ran_where_writing_failed : IsOutcome by_name words (Err write_failed) → (AsksForText words → ⊥) → NamesMote by_name words
  ran_where_writing_failed (inl is) asks = is
  ran_where_writing_failed (inr text) asks = absurd (asks text)

  with_bad_sizes : IsOutcome by_name words (Err bad_sizes) → NamesMote by_name words → ⊥
  with_bad_sizes is names = let bad = is.1 in let good = names.bootable in absurd (cc)

  with_bad_sizes_of_applications : Refuses by_name words bad_sizes → NamesApplications by_name words
  with_bad_sizes_of_applications refused = refused.0

  no_application : (name : Bor (List ℕ)) → IsOutcome by_name words (Err (Failure.NoApplication name)) → NamesMote by_name words → ⊥
  no_application name is names = let unknown = is.1 in let known = names.applications.known in absurd (cc)

  too_many_applications : IsOutcome by_name words (Err Failure.TooManyApplications) → NamesMote by_name words → ⊥
  too_many_applications is names = let many = is.1.1 in let few = names.applications.few in absurd (omega (arith, many, few))

  -- a malformed argument is reported before the arguments are read
  other_failures : Refuses by_name words Failure.NotText ⊎ (Refuses by_name words read_failed ⊎ Refuses by_name words write_failed) → ⊥
  other_failures refused = grind arith

  -- the status is that of what was done
  no_halt_with_0 : IsStatusFor by_name words (λ outcome. outcome ≡ Ok End.Halted) 0 → ⊥
  no_halt_with_0 is = let zero_is_three : ◌≡◌ {A = ℕ} 0 3 = is.is_status ∙ ap status_of_outcome is.is_done in absurd (omega arith)

  halt_of_a_mote : (status : ℕ) → IsStatusFor by_name words (λ outcome. outcome ≡ Ok End.Halted) status → NamesMote by_name words
  halt_of_a_mote status is = subst (IsOutcome by_name words) is.is_done is.is_allowed

  module _ (text : ParserText) where
    -- the parser's mistakes are of arguments that it refuses
    mistake : IsOutcome by_name words (Err (Failure.Words text)) → NamesMote by_name words → ⊥
    mistake is names = let taken = names.applications.taken in rw taken at is.0

    asked_for_text : IsOutcome by_name words (Err (Failure.Request text)) → NamesMote by_name words → ⊥
    asked_for_text is names = let taken = names.applications.taken in rw taken at is.0

    -- with boxed applications the arguments are not refused
    no_answer : (config : Config) → IsAnswer config (Err (Failure.Words text)) → ⊥
    no_answer config is = is

-- no run of a mote that doesn't boot
no_run : (config : Config) (end : End) → is_bootable config ≡ false → IsAnswer config (Ok end) → ⊥
no_run config end bad is = absurd (cc)

-- arguments that name a mote have a run that keeps the promise of `run`
module _ {A : Type 0} (by_name : List ℕ → Option A) (says : A → Says) (words : List (List ℕ)) (exchange : Exchange) where
  abbrev asked : Named A
  asked = named_in by_name words

  abbrev Has : Result End Failure → Type 0
  Has outcome = HasRunNamed by_name says words outcome exchange

  abbrev Keeps : Result End RunFault → Type 0
  Keeps answer = RunPromise (config_of asked) (says_of says asked.applications.items) asked.quiet answer exchange

  module _ (names : NamesMote by_name words) where
    keeps_the_promise : (end : End) → Has (Ok end) → Keeps (Ok end)
    keeps_the_promise end has = has.promise names

    keeps_it_where_a_device_failed : (Has (Err read_failed) → Keeps (Err RunFault.Read))
        × (Has (Err write_failed) → Keeps (Err RunFault.Write))
    keeps_it_where_a_device_failed = (λ has. has.promise names, λ has. has.promise names)

  -- what was written is the text of such a run
  is_of_what_is_named : (outcome : Result End Failure) → Has outcome
      → HasRunTo (config_of asked) (says_of says asked.applications.items) asked.quiet read_failed outcome exchange
  is_of_what_is_named outcome has = has.ran
