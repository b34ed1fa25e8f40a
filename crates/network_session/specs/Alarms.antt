-- The earliest of many moments.
use Rattle.std.specs.Prelude.{ℕ, ◌+◌, List, [], ◌∷◌, min, Option, None, Some, nat_le, if◌then◌else◌}
use Rattle.network_session.specs.declared.alarm.Alarm.{Alarm}

-- the earlier of the two, if there are two; of one moment, the one before
abbrev pub sooner : Alarm → Option Alarm → Alarm
sooner alarm None = alarm
sooner alarm (Some other) = if nat_le alarm.moment other.moment then alarm else other

-- the first of the earliest moment, where the first number is i
abbrev pub first_alarm : ℕ → List ℕ → Option Alarm
first_alarm i [] = None
first_alarm i (moment ∷ moments) = Some (sooner (record { moment = moment; owner = i }) (first_alarm (i + 1) moments))

abbrev pub come_by : ℕ → Option Alarm → Option ℕ
come_by now None = None
come_by now (Some alarm) = if nat_le alarm.moment now then Some alarm.owner else None

-- the number of the first of the earliest moment, if that has come
abbrev pub first_come : ℕ → List ℕ → Option ℕ
first_come now moments = come_by now (first_alarm 0 moments)

abbrev pub earliest_by : ℕ → Option Alarm → ℕ
earliest_by limit None = limit
earliest_by limit (Some alarm) = min alarm.moment limit

-- the earliest of these moments and of that one
abbrev pub earliest_in : ℕ → List ℕ → ℕ
earliest_in limit moments = earliest_by limit (first_alarm 0 moments)
