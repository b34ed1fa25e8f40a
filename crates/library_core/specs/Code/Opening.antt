-- A mote of a network that is opened.
use Rattle.std.specs.Prelude.{◌≡◌, List, [], ◌∷◌, ◌++◌}
use Rattle.kernel_core.specs.declared.config.Config.{Config}
use Rattle.mote_session.specs.SessionView.{SessionView}
use Rattle.library_core.specs.Steps.{IsOpened}

-- one more mote, which has just booted with this configuration
pub record IsMoteAdded (config : Config) (old new : List SessionView) : Type 0 where
  pub session : SessionView
  pub opened : IsOpened config session
  pub added : new ≡ old ++ session ∷ []
