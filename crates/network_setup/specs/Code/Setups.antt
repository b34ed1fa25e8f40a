-- What a setup keeps, and what holds of it after a line.
use Rattle.std.specs.Prelude.{◌≡◌, List, [], ◌∷◌, ◌++◌, Option, None, Some, Result, Ok, Err}
use Rattle.std.specs.Global.{Vec}
use Rattle.kernel_core.specs.declared.config.Config.{Config}
use Rattle.mote_session.specs.SessionView.{SessionView}
use Rattle.network_setup.specs.SetupView.{HasJustBooted, HaveJustBooted, SetupView}
use Rattle.network_setup.specs.declared.fault.LineFault.{LineFault}
use Rattle.network_setup.specs.declared.mote_app.MoteApp.{MoteApp}

-- A line does what is said of it, or it is malformed where nothing is said. Where memory is refused this promises nothing
abbrev pub Does : {A : Type 0} → Result (Unit {0}) LineFault → Option A → A → Type 0
Does (Ok _) said new = said ≡ Some new
Does (Err LineFault.Malformed) said new = said ≡ None
Does (Err LineFault.Memory) said new = Unit {0}

-- where something is malformed, this is so
abbrev pub IfMalformed : {A : Type 0} → Result A LineFault → Type 0 → Type 0
IfMalformed (Err LineFault.Malformed) Why = Why
IfMalformed _ Why = Unit {0}

-- where memory is refused, this is so
abbrev pub IfNoMemory : {A : Type 0} → Result A LineFault → Type 0 → Type 0
IfNoMemory (Err LineFault.Memory) Why = Why
IfNoMemory _ Why = Unit {0}

-- motes with some configurations have just booted
pub record AreBooted (motes : List SessionView) : Type 0 where
  pub configs : List Config
  pub booted : HaveJustBooted configs motes

-- one more mote, which has just booted with this configuration
pub record IsAdded (config : Config) (old new : List SessionView) : Type 0 where
  pub mote : SessionView
  pub booted : HasJustBooted config mote
  pub added : new ≡ old ++ mote ∷ []

-- and these are its applications; it has no links
pub record HasOneMore (config : Config) (own : Vec MoteApp) (old new : SetupView) : Type 0 where
  pub motes : IsAdded config old.motes new.motes
  pub applications : new.applications ≡ old.applications ++ own ∷ []
  pub links : new.links ≡ old.links ++ [] ∷ []
  pub room : new.room ≡ old.room
  pub rounds : new.rounds ≡ old.rounds
