-- What is left to do until a network rests.
use Rattle.std.specs.Prelude.{◌≡◌, ℕ, ◌+◌, ◌-◌, ◌<◌, List, Bool, true, false, length, slice_get, Option, None, Some, suc}
use Rattle.kernel_core.specs.Code.Conditions.{most_entries_left}
use Rattle.mote_session.specs.SessionView.{SessionView}
use Rattle.network_session.specs.Network.{NetworkView}
use Rattle.network_session.specs.declared.outcome.Outcome.{Outcome}

-- rounds and starts
abbrev pub to_do : NetworkView → ℕ
to_do net = (length net.motes - net.started) + net.rounds

abbrev pub left_of : Option SessionView → ℕ
left_of None = 0
left_of (Some mote) = suc mote.entries_left

-- the entries that the mote at work can still make
abbrev pub left_at : List SessionView → Option ℕ → ℕ
left_at motes None = 0
left_at motes (Some m) = suc (left_of (slice_get motes m))

abbrev pub left_at_work : NetworkView → ℕ
left_at_work net = left_at net.motes net.active

abbrev pub most_left_at_work : ℕ
most_left_at_work = 2 + most_entries_left

pub record IsNearerRest (old new : NetworkView) : Type 0 where
  pub nearer : left_at_work new < left_at_work old
  pub same : to_do new ≡ to_do old

-- a run ends after this step
abbrev pub is_last : Outcome → Bool
is_last Outcome.Rest = true
is_last Outcome.Exhausted = true
is_last _ = false
