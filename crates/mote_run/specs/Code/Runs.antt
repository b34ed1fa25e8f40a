-- Whole runs of a mote.
use Rattle.std.specs.Prelude.{⊤, ℕ, Result, Ok, Err}
use Rattle.kernel_core.specs.declared.config.Config.{Config}
use Rattle.mote_text.specs.declared.script.End.{End}
use Rattle.mote_types.specs.declared.fault.MoteFault.{MoteFault}
use Rattle.mote_types.specs.declared.fault.RunFault.{RunFault}
use Rattle.node_memory.specs.declared.sizes.Sizes.{Sizes}

-- a mote of these sizes with this number of applications
abbrev pub config_of : Sizes → ℕ → Config
config_of sizes applications =
    record { mmem = sizes.mmem; heap = sizes.heap; apps = applications; quota = sizes.quota; header = sizes.header }

-- this holds of the result of `run`, where the mote was run
abbrev pub OfRun : Result End MoteFault → (Result End RunFault → Type 0) → Type 0
OfRun (Ok end) P = P (Ok end)
OfRun (Err (MoteFault.Run fault)) P = P (Err fault)
OfRun (Err (MoteFault.Boot fault)) P = ⊤
