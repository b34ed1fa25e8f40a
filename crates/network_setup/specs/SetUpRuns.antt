-- The run of a network that was set up.
use Rattle.std.specs.Prelude.{◌≡◌, ℕ, Bool, false, List, [], None, Result, Ok, Err}
use Rattle.kernel_core.specs.declared.config.Config.{Config}
use Rattle.medium_core.specs.Air.{are_links, still_air}
use Rattle.mote_text.specs.declared.script.End.{End}
use Rattle.network_setup.specs.SetupView.{HaveJustBooted, SetupView, config_of}
use Rattle.network_setup.specs.declared.fault.SetUpRunFault.{SetUpRunFault}
use Rattle.network_run.specs.NetworkRunText.{HasRun, IsAtStart}
use Rattle.mote_session.specs.Voices.{Voices}
use Rattle.network_session.specs.Network.{NetworkView}
use Rattle.network_session.specs.Promise.{IsLogOf}
use Rattle.network_steps.specs.declared.input.NetworkInput.{NetworkInput}

-- the network of these motes and links, before anything has happened
abbrev pub start_of : SetupView → NetworkView
start_of setup =
    let air = still_air setup.room setup.links in
    record { motes = setup.motes; air = air; active = None; started = 0; target = 0; bound = setup.rounds; rounds = setup.rounds }

-- It has just booted: nothing is the log of what happened in it, and no mote was started. So what happens in its run keeps the promise of a
-- network, and it refuses only what is too much
pub record HasBooted (setup : SetupView) : Type 0 where
  pub configs : List Config
  pub motes : HaveJustBooted configs setup.motes
  pub log : IsLogOf (config_of configs) setup.room setup.links [] (start_of setup)
  pub at_start : IsAtStart (start_of setup)

-- how the run ended: as that of the network promises. There is none where memory is refused, or a link isn't sound
abbrev pub HasRunSetUp : Bool → NetworkView → Voices → List NetworkInput × End → List ℕ → Result End SetUpRunFault → Type 0
HasRunSetUp quiet start voices script written (Ok end) = HasRun quiet start voices script written (Ok end)
HasRunSetUp quiet start voices script written (Err (SetUpRunFault.Run fault)) = HasRun quiet start voices script written (Err fault)
HasRunSetUp quiet start voices script written (Err SetUpRunFault.Memory) = written ≡ []
HasRunSetUp quiet start voices script written (Err SetUpRunFault.NoMote) = ⊥
HasRunSetUp quiet start voices script written (Err SetUpRunFault.BadLink) = (written ≡ []) × (are_links start.air.links ≡ false)
