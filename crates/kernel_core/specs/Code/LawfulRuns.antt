-- What holds of all runs of the machine from a configuration.
use Rattle.std.specs.Prelude.{List}
use Rattle.mote_types.specs.Applications.{Applications}
use Rattle.mote_types.specs.declared.entry.Input.{Input}
use Rattle.kernel_core.specs.declared.config.Config.{Config}
use Rattle.kernel_core.specs.Run.{Running, Runs, at_start}
use Rattle.kernel_core.specs.Laws.RunLaws.{KeepsLaws}

-- there is one of any applications on any inputs, and each keeps the laws
pub record LawfulRuns (config : Config) : Type 0 where
  pub exists : (says : Applications) (inputs : List Input) → (after : Running) × Runs says (at_start config) inputs after
  pub kept : (says : Applications) (inputs : List Input) (after : Running) → Runs says (at_start config) inputs after
      → KeepsLaws config after.entries
