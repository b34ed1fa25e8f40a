-- What a kernel is made of at boot.
use Rattle.std.specs.Prelude.{◌≡◌, ◌+◌, ◌≤◌}
use Rattle.node_memory.specs.Memory.{fresh_memory}
use Rattle.node_memory.specs.Code.Placed.{last_owner}
use Rattle.timer_core.specs.Code.NumberedTimers.{at_boot}
use Rattle.kernel_core.specs.declared.boot.Tables.{Tables}
use Rattle.kernel_core.specs.declared.config.Config.{Config}
use Rattle.kernel_core.specs.declared.kernel_fields.KernelFields.{KernelFields}
use Rattle.kernel_core.specs.Code.View.{machine_of, IsInOrder}
use Rattle.kernel_core.specs.Machine.{booted, sizes_of}

-- the large tables, before anything was stored in them
pub record AreAtBoot (config : Config) (tables : Tables) : Type 0 where
  pub few : config.apps ≤ 16
  pub fresh : tables.memory.value.contents ≡ fresh_memory (sizes_of config)
  pub owners : 3 + config.apps ≤ last_owner tables.memory.value
  pub unarmed : tables.timers.value ≡ at_boot

-- the fields, before an application is started
pub record IsBooted (config : Config) (k : KernelFields) : Type 0 where
  pub machine : machine_of k ≡ booted config
  pub order : IsInOrder k
  pub inputs : k.inputs ≡ 0
