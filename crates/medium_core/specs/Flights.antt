-- The frames in flight: a list, the next to arrive first.
use Rattle.std.specs.Prelude.{◌≡◌, ℕ, List, [], ◌∷◌, Option, None, Some, nat_lt, if◌then◌else◌}
use Rattle.arrayvec.specs.ArrayVec.{ArrayVec}
use Rattle.medium_core.specs.declared.flight.Flight.{Flight}

-- after all that arrive no later
abbrev pub with_flight : Flight → List Flight → List Flight
with_flight f [] = f ∷ []
with_flight f (g ∷ flights) = if nat_lt f.due g.due then f ∷ g ∷ flights else g ∷ with_flight f flights

-- one after another
abbrev pub with_flights : List Flight → List Flight → List Flight
with_flights [] flights = flights
with_flights (f ∷ more) flights = with_flights more (with_flight f flights)

-- when the next one arrives
abbrev pub next_due : List Flight → Option ℕ
next_due [] = None
next_due (f ∷ flights) = Some f.due

abbrev pub first_flight : List Flight → Option Flight
first_flight [] = None
first_flight (f ∷ flights) = Some f

-- what a receiver sees of a flight
pub record IsSeenAs (due from to : ℕ) (bytes : ArrayVec ℕ) (f : Flight) : Type 0 where
  pub is_due : f.due ≡ due
  pub is_of : f.from ≡ from
  pub is_for : f.to ≡ to
  pub holds : f.bytes ≡ bytes
