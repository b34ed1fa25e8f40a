-- How steps that make no entry lead to the next one that makes one, or to rest: what the code promises of a step.
use Rattle.std.specs.Prelude.{◌≡◌, ℕ, zero, suc, true, List, [], ◌∷◌, Some}
use Rattle.mote_types.specs.declared.entry.Entry.{Entry}
use Rattle.kernel_core.specs.declared.step.Step.{Step}
use Rattle.kernel_core.specs.declared.step.StepOutcome.{StepOutcome}
use Rattle.kernel_core.specs.declared.turn.Turn.{Turn}
use Rattle.kernel_core.specs.Machine.{Machine}
use Rattle.kernel_core.specs.Run.{Choices, is_at_rest, one_step, silent}

-- n steps that make no entry lead from old to new
abbrev pub Silently : Choices → ℕ → Machine → Machine → Type 0
Silently choices zero old new = old ≡ new
Silently choices (suc n) old new = (next : Machine) × (one_step choices old ≡ silent next) × Silently choices n next new

-- steps that make no entry lead from old to new
pub record GoesSilently (choices : Choices) (old new : Machine) : Type 0 where
  pub count : ℕ
  pub steps : Silently choices count old new

-- steps that make no entry, and then one that makes this entry
pub record MakesEntry (choices : Choices) (old : Machine) (entry : Entry) (new : Machine) : Type 0 where
  pub last : Machine
  pub before : GoesSilently choices old last
  pub makes : one_step choices last ≡ (new, Some entry)

-- steps that make no entry, until nothing is left to be done
pub record GoesToRest (choices : Choices) (old new : Machine) : Type 0 where
  pub before : GoesSilently choices old new
  pub at_rest : is_at_rest new ≡ true

-- the machine goes on to the next entry, or to rest; once halted, it stays
abbrev pub GoesOn : Choices → Machine → Step → Machine → Type 0
GoesOn choices old (Step.Entry entry) new = MakesEntry choices old entry new
GoesOn choices old Step.Rest new = GoesToRest choices old new
GoesOn choices old Step.Halted new = (old.is_halted ≡ true) × (new ≡ old)

abbrev pub made : Step → List Entry
made (Step.Entry entry) = entry ∷ []
made _ = []

-- the entry of a turn
abbrev pub entry_of : Turn → Entry
entry_of turn = Entry.Turn turn.pid turn.origin turn.stimulus turn.call

-- the result of a step that writes its entry into a buffer: a turn into one, any other entry into another
abbrev pub stepped : StepOutcome → Turn → Entry → Step
stepped StepOutcome.Turn turn other = Step.Entry (entry_of turn)
stepped StepOutcome.Other turn other = Step.Entry other
stepped StepOutcome.Rest turn other = Step.Rest
stepped StepOutcome.Halted turn other = Step.Halted
