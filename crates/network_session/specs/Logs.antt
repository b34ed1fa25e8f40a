-- What each step adds to the log.
use Rattle.std.specs.Prelude.{ℕ, List, [], ◌∷◌, slice_get, Option, None, Some}
use Rattle.network_session.specs.Alarms.{earliest_in}
use Rattle.medium_core.specs.Air.{arrival}
use Rattle.medium_core.specs.declared.flight.Flight.{Flight}
use Rattle.mote_types.specs.declared.entry.Entry.{Entry}
use Rattle.mote_session.specs.SessionView.{SessionView}
use Rattle.mote_session.specs.declared.session.Next.{Next}
use Rattle.network_session.specs.Happenings.{Happening}
use Rattle.network_session.specs.Network.{NetworkView, wakes_of}
use Rattle.network_session.specs.Waking.{due_tick}
use Rattle.network_session.specs.declared.outcome.Outcome.{Outcome}

abbrev pub made : ℕ → Option Entry → List Happening
made m None = []
made m (Some entry) = Happening.Entry m entry ∷ []

-- the entry that the mote made last
abbrev pub made_by : ℕ → Option SessionView → List Happening
made_by m None = []
made_by m (Some mote) = made m mote.last

-- the ticks that the mote is behind
abbrev pub told_by : ℕ → ℕ → Option SessionView → List Happening
told_by clock m None = []
told_by clock m (Some mote) = Happening.Fed m (due_tick clock mote) ∷ []

abbrev pub heard_by : ℕ → Option Flight → List Happening
heard_by m None = []
heard_by m (Some flight) = Happening.Heard m flight.bytes ∷ []

abbrev pub happened : Outcome → NetworkView → NetworkView → List Happening
happened (Outcome.Worked m Next.Entry) old new = made_by m (slice_get new.motes m)
happened (Outcome.Woken m) old new = told_by old.air.clock m (slice_get old.motes m)
happened (Outcome.Heard m) old new = heard_by m (arrival old.air)
happened (Outcome.Missed from to) old new = Happening.Missed ∷ []
happened Outcome.Clock old new = Happening.Clock (earliest_in old.target (wakes_of old.motes)) ∷ []
happened _ old new = []

-- the turn whose call was submitted
abbrev pub submitted_by : NetworkView → Option ℕ → List Happening
submitted_by new None = []
submitted_by new (Some m) = made_by m (slice_get new.motes m)

abbrev pub submitted : NetworkView → NetworkView → List Happening
submitted old new = submitted_by new old.active
