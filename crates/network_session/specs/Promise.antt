-- What a network promises: each mote's entries are those of the machine's run on what it was handed, and the frames it was handed are
-- those that the medium brought.
use Rattle.std.specs.Prelude.{◌≡◌, ℕ, List, slice_get, Some}
use Rattle.medium_core.specs.Air.{still_air}
use Rattle.medium_core.specs.Laws.{KeepsFaith, all_done}
use Rattle.medium_core.specs.declared.link.Link.{Link}
use Rattle.kernel_core.specs.declared.config.Config.{Config}
use Rattle.mote_session.specs.SessionRuns.{IsHistoryOf, SessionPromise}
use Rattle.mote_session.specs.SessionView.{SessionView}
use Rattle.network_session.specs.Happenings.{AreArrivals, Happening, all_deeds, history_of}
use Rattle.network_session.specs.Network.{NetworkView}

-- what each mote was handed and made is its history
abbrev pub AreHistories : (ℕ → Config) → List Happening → List SessionView → Type 0
AreHistories configs log motes =
    (m : ℕ) (mote : SessionView) → slice_get motes m ≡ Some mote → IsHistoryOf (history_of (configs m) m log) mote

-- this is what happened
pub record IsLogOf (configs : ℕ → Config) (room : ℕ) (links : List (List Link)) (log : List Happening) (net : NetworkView) : Type 0 where
  pub motes : AreHistories configs log net.motes
  pub air : net.air ≡ all_done (all_deeds log) (still_air room links)
  pub heard : AreArrivals (still_air room links) log

-- each mote keeps the promise of a session, and the medium keeps faith
pub record NetworkPromise (configs : ℕ → Config) (room : ℕ) (links : List (List Link)) (log : List Happening) (net : NetworkView) : Type 0 where
  pub motes : (m : ℕ) (mote : SessionView) → slice_get net.motes m ≡ Some mote → SessionPromise (history_of (configs m) m log) mote
  pub medium : KeepsFaith room links (all_deeds log)
