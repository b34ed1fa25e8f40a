-- What contracts see of a network that is set up: its motes have just booted.
use Rattle.std.specs.Prelude.{◌≡◌, ℕ, List, [], ◌∷◌, None, slice_index_or}
use Rattle.std.specs.Global.{Vec}
use Rattle.kernel_core.specs.Machine.{booted}
use Rattle.kernel_core.specs.declared.config.Config.{Config}
use Rattle.medium_core.specs.declared.link.Link.{Link}
use Rattle.mote_session.specs.History.{at_boot}
use Rattle.mote_session.specs.SessionRuns.{IsHistoryOf}
use Rattle.mote_session.specs.SessionView.{SessionView}
use Rattle.network_setup.specs.declared.mote_app.MoteApp.{MoteApp}

pub record SetupView : Type 0 where
  pub motes : List SessionView
  -- those of mote 1, of mote 2, and so on; and so with the links
  pub applications : List (Vec MoteApp)
  pub links : List (List Link)
  pub room : ℕ
  pub rounds : ℕ

-- a mote of this configuration that has done nothing since its boot
pub record HasJustBooted (config : Config) (mote : SessionView) : Type 0 where
  pub machine : mote.machine ≡ booted config
  pub turn : mote.turn ≡ None
  pub history : IsHistoryOf (at_boot config) mote

-- so it is with each of these motes
abbrev pub HaveJustBooted : List Config → List SessionView → Type 0
HaveJustBooted [] [] = Unit {0}
HaveJustBooted (config ∷ configs) (mote ∷ motes) = HasJustBooted config mote × HaveJustBooted configs motes
HaveJustBooted _ _ = ⊥

-- a mote without options
abbrev pub default_config : Config
default_config = record { mmem = 4_096; heap = 4_096; apps = 0; quota = None; header = 16 }

-- the configuration of mote m
abbrev pub config_of : List Config → ℕ → Config
config_of configs m = slice_index_or configs m default_config

-- no motes
abbrev pub empty_setup : SetupView
empty_setup = record { motes = []; applications = []; links = []; room = 1_024; rounds = 16_777_216 }
