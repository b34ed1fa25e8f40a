-- What the numbers of a configuration say.
use Rattle.std.specs.Prelude.{Bool, not, Some, None, if◌then◌else◌, ◌==◌}
use Rattle.node_memory.specs.declared.sizes.Sizes.{Sizes}
use Rattle.library_core.specs.declared.configuration.Configuration.{Configuration}

-- the sizes of the mote's memory
abbrev pub sizes_of : Configuration → Sizes
sizes_of configuration =
    record {
      mmem = configuration.mmem;
      heap = configuration.heap;
      header = configuration.header;
      quota = if configuration.has_quota == 0 then None else Some configuration.quota;
    }

-- whether the transcript is a quiet one
abbrev pub is_quiet : Configuration → Bool
is_quiet configuration = not (configuration.quiet == 0)
