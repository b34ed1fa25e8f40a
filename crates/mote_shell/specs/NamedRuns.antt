-- Which mote the arguments name, and which outcomes they may have.
use Rattle.std.specs.Prelude.{◌≡◌, ◌⊎◌, ⊤, ℕ, Bool, true, false, List, length, Option, Result, Ok, Err}
use Rattle.mote_types.specs.Applications.{Applications, Says, says_of}
use Rattle.kernel_core.specs.declared.config.Config.{Config}
use Rattle.kernel_core.specs.Machine.{is_bootable}
use Rattle.mote_text.specs.declared.script.End.{End}
use Rattle.mote_run.specs.RunText.{Exchange, HasRunTo}
use Rattle.mote_run.specs.Trace.{RunPromise}
use Rattle.mote_run.specs.Code.Runs as of_boxes
use Rattle.mote_types.specs.declared.fault.BootFault.{BootFault}
use Rattle.mote_types.specs.declared.fault.MoteFault.{MoteFault}
use Rattle.mote_types.specs.declared.fault.RunFault.{RunFault}
use Rattle.command_line.specs.CommandLine.{AsksForText, NamesApplications, named_in}
use Rattle.command_line.specs.CommandLine as of_words
use Rattle.command_line.specs.Statuses.{read_failed, status_of_outcome}
use Rattle.command_line.specs.declared.failure.Failure.{Failure}
use Rattle.command_line.specs.declared.named.Named.{Named}
use Rattle.command_line.specs.declared.refusal.Refusal.{Refusal}

-- a mote of the named sizes with the named applications
abbrev pub config_of : {A : Type 0} → Named A → Config
config_of named = of_boxes.config_of named.sizes (length named.applications.items)

-- this holds of the result of `run`, where a mote was run
abbrev pub OfRun : Result End Failure → (Result End RunFault → Type 0) → Type 0
OfRun (Ok end) P = P (Ok end)
OfRun (Err (Failure.Mote (MoteFault.Run fault))) P = P (Err fault)
OfRun (Err failure) P = ⊤

-- what was read and written is that of a run with this result, and where a mote was run, it keeps the promise of `run`
pub record HasRunAs (config : Config) (says : Applications) (quiet : Bool) (outcome : Result End Failure)
    (exchange : Exchange) : Type 0 where
  pub ran : HasRunTo config says quiet read_failed outcome exchange
  pub promise : OfRun outcome (λ answer. RunPromise config says quiet answer exchange)

-- the outcomes of a run of boxed applications: a run, or its failure, only where there is such a mote, and bad sizes only where not
abbrev pub IsAnswer : Config → Result End Failure → Type 0
IsAnswer config (Ok end) = is_bootable config ≡ true
IsAnswer config (Err (Failure.Mote (MoteFault.Run fault))) = is_bootable config ≡ true
IsAnswer config (Err (Failure.Mote (MoteFault.Boot BootFault.BadSizes))) = is_bootable config ≡ false
IsAnswer config (Err (Failure.Mote (MoteFault.Boot BootFault.Memory))) = ⊤
IsAnswer config (Err failure) = ⊥

-- by the table of a program's applications, which has the one of each name
module _ {A : Type 0} (by_name : List ℕ → Option A) where
  -- the parser accepts the arguments, each name is an application's, and there is a mote of these sizes with that number of applications
  pub record NamesMote (words : List (List ℕ)) : Type 0 where
    pub applications : NamesApplications by_name words
    pub bootable : is_bootable (config_of (named_in by_name words)) ≡ true

  -- each name is an application's, and they are at most 16, but there is no mote of these sizes
  abbrev pub HasBadSizes : List (List ℕ) → Type 0
  HasBadSizes words = NamesApplications by_name words × (is_bootable (config_of (named_in by_name words)) ≡ false)

  -- the failures that arguments may have instead of a mote: each under its own condition, of which no two hold at once; and
  -- refused memory
  abbrev pub Refuses : List (List ℕ) → Failure → Type 0
  Refuses words (Failure.Request text) = of_words.Refuses by_name words (Refusal.Request text)
  Refuses words (Failure.Words text) = of_words.Refuses by_name words (Refusal.Words text)
  Refuses words (Failure.NoApplication name) = of_words.Refuses by_name words (Refusal.NoApplication name)
  Refuses words Failure.TooManyApplications = of_words.Refuses by_name words Refusal.TooManyApplications
  Refuses words (Failure.Mote (MoteFault.Boot BootFault.BadSizes)) = HasBadSizes words
  Refuses words (Failure.Mote (MoteFault.Boot BootFault.Memory)) = ⊤
  Refuses words failure = ⊥

  -- the outcomes that arguments may have: a run, or its failure, only where they name a mote, and what they are refused with
  -- only where they name none. Writing a text that they ask for may fail
  abbrev pub IsOutcome : List (List ℕ) → Result End Failure → Type 0
  IsOutcome words (Ok end) = NamesMote words
  IsOutcome words (Err (Failure.Mote (MoteFault.Run RunFault.Read))) = NamesMote words
  IsOutcome words (Err (Failure.Mote (MoteFault.Run RunFault.Write))) = NamesMote words ⊎ AsksForText words
  IsOutcome words (Err failure) = Refuses words failure

  -- the status of an outcome that the arguments allow, with which this was done
  pub record IsStatusFor (words : List (List ℕ)) (IsDone : Result End Failure → Type 0) (status : ℕ) : Type 0 where
    pub outcome : Result End Failure
    pub is_allowed : IsOutcome words outcome
    pub is_done : IsDone outcome
    pub is_status : status ≡ status_of_outcome outcome

  -- what was read and written is that of a run of the named applications, which say this, at the named sizes, and quiet as the
  -- arguments ask; where they name a mote, it keeps the promise of `run`
  pub record HasRunNamed (says : A → Says) (words : List (List ℕ)) (outcome : Result End Failure) (exchange : Exchange) : Type 0 where
    pub ran : HasRunTo (config_of (named_in by_name words)) (says_of says (named_in by_name words).applications.items)
        (named_in by_name words).quiet read_failed outcome exchange
    pub promise : NamesMote words → OfRun outcome (λ answer.
        RunPromise (config_of (named_in by_name words)) (says_of says (named_in by_name words).applications.items)
        (named_in by_name words).quiet answer exchange)
