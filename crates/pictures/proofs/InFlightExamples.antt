-- Examples: runs, with what becomes of each frame.
use Rattle.std.proofs.Common.{◌≡◌, ℕ, List, [], ◌∷◌, length, codes, refl}
use denote.Ref.{Bor}
use Rattle.pictures.specs.declared.transcript.line.Input.{Input}
use Rattle.pictures.specs.declared.transcript.line.Line.{Line}
use Rattle.pictures.specs.declared.transcript.line.Note.{Note}
use Rattle.pictures.specs.Network.InFlight.{at_end, flights_by}
use Rattle.pictures.specs.declared.network.flights.Fate.{Fate}
use Rattle.pictures.specs.declared.network.flights.Flight.{Flight}
use Rattle.pictures.specs.declared.network.flights.Link.{Link}
use Rattle.pictures.specs.declared.network.line.NetworkLine.{NetworkLine}

abbrev digits : List ℕ → Bor (List ℕ)
digits text = record { ref_ptr = (0, 0); now = text }

abbrev sends : ℕ → List ℕ → NetworkLine
sends mote text = NetworkLine.Mote mote (Line.Note (Note.Sent (digits text)))

abbrev hears : ℕ → List ℕ → NetworkLine
hears mote text = NetworkLine.Mote mote (Line.Input (Input.Frame (digits text)))

abbrev link : ℕ → ℕ → ℕ → Link
link from to delay = record { from = from; to = to; delay = delay }

-- from which mote to which one, sent and ended in which lines
abbrev flight : ℕ → ℕ → ℕ → ℕ → Fate → Flight
flight from to sent ended fate = record { from = from; to = to; sent = sent; ended = ended; fate = fate }

abbrev links : List Link
links = link 1 2 3 ∷ link 1 3 5 ∷ link 2 1 1 ∷ []

abbrev all_flights : List NetworkLine → List Flight
all_flights lines = flights_by (length lines) (at_end links lines)

abbrev from_outside : List NetworkLine → List ℕ
from_outside lines = (at_end links lines).outside

-- mote 1's frame is heard by 2 and lost on the way to 3; 2's frame is missed; at the end 1's second one is under way
abbrev run : List NetworkLine
run =
    sends 1 (codes "0a") ∷ NetworkLine.Clock 3 ∷ hears 2 (codes "0a") ∷ NetworkLine.Lost 1 3 ∷ sends 2 (codes "0b") ∷ NetworkLine.Clock 4
    ∷ NetworkLine.Missed 2 1 ∷ sends 1 (codes "0c") ∷ []

flights : all_flights run
    ≡ flight 1 2 0 2 Fate.Heard ∷ flight 1 3 0 3 Fate.Lost ∷ flight 2 1 4 6 Fate.Missed ∷ flight 1 2 7 8 Fate.UnderWay
    ∷ flight 1 3 7 8 Fate.UnderWay ∷ []
flights = refl

none_from_outside : from_outside run ≡ []
none_from_outside = refl

-- a frame that comes too early, or with other bytes, is from outside
abbrev early : List NetworkLine
early = sends 1 (codes "0a") ∷ NetworkLine.Clock 2 ∷ hears 2 (codes "0a") ∷ NetworkLine.Clock 3 ∷ hears 2 (codes "0b") ∷ []

early_arrivals : from_outside early ≡ 2 ∷ 4 ∷ []
early_arrivals = refl

early_flights : all_flights early ≡ flight 1 2 0 5 Fate.UnderWay ∷ flight 1 3 0 5 Fate.UnderWay ∷ []
early_flights = refl

-- so is one that is missed from another mote than the one that sent
abbrev other_sender : List NetworkLine
other_sender = sends 2 (codes "0b") ∷ NetworkLine.Clock 1 ∷ NetworkLine.Missed 3 1 ∷ []

missed_from_outside : from_outside other_sender ≡ 2 ∷ []
missed_from_outside = refl

-- of two frames that are due with the same bytes, the first one is heard first
abbrev twice : List NetworkLine
twice = sends 2 (codes "0b") ∷ sends 2 (codes "0b") ∷ NetworkLine.Clock 1 ∷ hears 1 (codes "0b") ∷ []

first_heard : all_flights twice ≡ flight 2 1 0 3 Fate.Heard ∷ flight 2 1 1 4 Fate.UnderWay ∷ []
first_heard = refl

-- a frame is lost that was sent last, and by this mote: here it found no room
abbrev full : List NetworkLine
full = sends 2 (codes "0b") ∷ sends 1 (codes "0a") ∷ NetworkLine.Full 2 1 ∷ NetworkLine.Full 1 2 ∷ []

no_room : all_flights full ≡ flight 1 2 1 3 Fate.Full ∷ flight 2 1 0 4 Fate.UnderWay ∷ flight 1 3 1 4 Fate.UnderWay ∷ []
no_room = refl
