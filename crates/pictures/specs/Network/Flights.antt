-- Frames on their way: each from the line in which it was sent to the one that says what became of it.
use Rattle.std.specs.Prelude.{◌≡◌, ℕ, ◌+◌, Bool, true, ◌&&◌, ◌==◌, List, [], ◌∷◌, slice_get, slice_index, Some}
use Rattle.std.specs.List.{list_any}
use denote.Ref.{Bor}
use Rattle.pictures.specs.declared.transcript.line.Input.{Input}
use Rattle.pictures.specs.declared.transcript.line.Line.{Line}
use Rattle.pictures.specs.declared.transcript.line.Note.{Note}
use Rattle.pictures.specs.Network.Capture.{clock_after}
use Rattle.pictures.specs.declared.network.flights.Fate.{Fate}
use Rattle.pictures.specs.declared.network.flights.Flight.{Flight}
use Rattle.pictures.specs.declared.network.flights.Link.{Link}
use Rattle.pictures.specs.declared.network.line.NetworkLine.{NetworkLine}

-- the clock at each of these lines
abbrev pub clocks : ℕ → List NetworkLine → List ℕ
clocks clock [] = []
clocks clock (line ∷ lines) = clock_after clock line ∷ clocks (clock_after clock line) lines

-- the flight begins at a frame that its sender sent
abbrev pub IsSent : List NetworkLine → Flight → Bor (List ℕ) → Type 0
IsSent lines flight digits = slice_get lines flight.sent ≡ Some (NetworkLine.Mote flight.from (Line.Note (Note.Sent digits)))

-- it ends at a frame that its receiver hears
abbrev pub IsHeard : List NetworkLine → Flight → Bor (List ℕ) → Type 0
IsHeard lines flight digits = slice_get lines flight.ended ≡ Some (NetworkLine.Mote flight.to (Line.Input (Input.Frame digits)))

abbrev pub leads : Flight → Link → Bool
leads flight link = link.from == flight.from && link.to == flight.to

-- the link leads from the one mote to the other, and takes the time of the flight
abbrev pub is_way : List ℕ → Flight → Link → Bool
is_way moments flight link = leads flight link && slice_index moments flight.ended == slice_index moments flight.sent + link.delay

-- what is true of a flight that ended so
abbrev pub IsEnded : List Link → List NetworkLine → Flight → Bor (List ℕ) → Fate → Type 0
IsEnded links lines flight digits Fate.Heard =
    (heard : Bor (List ℕ)) × IsHeard lines flight heard × (heard.now ≡ digits.now) × (list_any (is_way (clocks 0 lines) flight) links ≡ true)
IsEnded links lines flight digits Fate.Missed =
    (slice_get lines flight.ended ≡ Some (NetworkLine.Missed flight.from flight.to))
    × (list_any (is_way (clocks 0 lines) flight) links ≡ true)
IsEnded links lines flight digits Fate.Lost = slice_get lines flight.ended ≡ Some (NetworkLine.Lost flight.from flight.to)
IsEnded links lines flight digits Fate.Full = slice_get lines flight.ended ≡ Some (NetworkLine.Full flight.from flight.to)
IsEnded links lines flight digits Fate.UnderWay = list_any (leads flight) links ≡ true

-- a flight: a frame that was sent, and what became of it on the way to one mote
pub record IsFlight (links : List Link) (lines : List NetworkLine) (flight : Flight) : Type 0 where
  pub digits : Bor (List ℕ)
  pub is_sent : IsSent lines flight digits
  pub is_ended : IsEnded links lines flight digits flight.fate
