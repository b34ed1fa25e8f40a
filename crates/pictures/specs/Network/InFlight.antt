-- Frames in flight, line by line: what a send puts in flight, what ends a flight, and which arrivals are from outside.
use Rattle.std.specs.Prelude.{◌==◌, ℕ, ◌+◌, Bool, ◌&&◌, List, [], ◌∷◌, ◌++◌, map, flat_map, position, remove, slice_get, bytes_eq, Option, Some, None, if◌then◌else◌}
use denote.Ref.{Bor}
use Rattle.pictures.specs.declared.transcript.line.Input.{Input}
use Rattle.pictures.specs.declared.transcript.line.Line.{Line}
use Rattle.pictures.specs.declared.transcript.line.Note.{Note}
use Rattle.pictures.specs.declared.network.flights.Fate.{Fate}
use Rattle.pictures.specs.declared.network.flights.Flight.{Flight}
use Rattle.pictures.specs.declared.network.flights.Link.{Link}
use Rattle.pictures.specs.declared.network.line.NetworkLine.{NetworkLine}
use Rattle.pictures.specs.declared.network.walk.Pending.{Pending}
use Rattle.pictures.specs.declared.network.walk.SentFrame.{SentFrame}
use Rattle.pictures.specs.declared.network.walk.Walk.{Walk}

-- a network after some lines: its links; the clock; the frame that was sent last; the frames in flight, first those that were sent first;
-- the flights that ended; the lines with an arrival that belongs to no send
pub record Medium : Type 0 where
  pub links : List Link
  pub clock : ℕ
  pub last : Option SentFrame
  pub pending : List Pending
  pub ended : List Flight
  pub outside : List ℕ

abbrev pub seen : Walk → Medium
seen walk = record {
  links = walk.links.now;
  clock = walk.clock;
  last = walk.last;
  pending = walk.pending.items;
  ended = walk.found.flights.items;
  outside = walk.found.outside.items;
}

-- ---- a send

-- the frame on a link, if that is one of its sender
abbrev pub on_link : SentFrame → Link → List Pending
on_link sent link = if link.from == sent.from then record { sent = sent; to = link.to; delay = link.delay } ∷ [] else []

-- this frame is sent: it is in flight on each link of its sender
abbrev pub with_sent : SentFrame → Medium → Medium
with_sent sent medium = record medium { last = Some sent; pending = medium.pending ++ flat_map (on_link sent) medium.links }

abbrev pub sent_by : ℕ → ℕ → Bor (List ℕ) → Medium → Medium
sent_by line from digits medium = with_sent (record { from = from; line = line; clock = medium.clock; digits = digits }) medium

-- ---- the end of a flight

abbrev pub ended : Pending → ℕ → Fate → Flight
ended frame line fate = record { from = frame.sent.from; to = frame.to; sent = frame.sent.line; ended = line; fate = fate }

-- the frame in flight in this position
abbrev pub frame_at : Option ℕ → List Pending → Option Pending
frame_at None pending = None
frame_at (Some at) pending = slice_get pending at

-- the others
abbrev pub without : Option ℕ → List Pending → List Pending
without None pending = pending
without (Some at) pending = remove pending at

-- a frame arrives: this one, or one from outside
abbrev pub arrived : ℕ → Fate → Option Pending → Medium → Medium
arrived line fate None medium = record medium { outside = medium.outside ++ line ∷ [] }
arrived line fate (Some frame) medium = record medium { ended = medium.ended ++ ended frame line fate ∷ [] }

-- that in this position arrives
abbrev pub arrived_at : ℕ → Fate → Option ℕ → Medium → Medium
arrived_at line fate at medium = arrived line fate (frame_at at medium.pending) (record medium { pending = without at medium.pending })

-- the frame arrives at this clock
abbrev pub is_due : ℕ → Pending → Bool
is_due clock frame = frame.sent.clock + frame.delay == clock

-- it is to be heard as these bytes
abbrev pub is_heard : ℕ → ℕ → Bor (List ℕ) → Pending → Bool
is_heard clock to digits frame = frame.to == to && is_due clock frame && bytes_eq frame.sent.digits.now digits.now

abbrev pub heard_by : ℕ → ℕ → Bor (List ℕ) → Medium → Medium
heard_by line to digits medium = arrived_at line Fate.Heard (position (is_heard medium.clock to digits) medium.pending) medium

abbrev pub is_missed : ℕ → ℕ → ℕ → Pending → Bool
is_missed clock from to frame = frame.sent.from == from && frame.to == to && is_due clock frame

abbrev pub missed_by : ℕ → ℕ → ℕ → Medium → Medium
missed_by line from to medium = arrived_at line Fate.Missed (position (is_missed medium.clock from to) medium.pending) medium

-- it is that of this line to this mote
abbrev pub is_of_line : ℕ → ℕ → Pending → Bool
is_of_line line to frame = frame.sent.line == line && frame.to == to

-- the frame that was sent last isn't carried to this mote
abbrev pub dropped : ℕ → ℕ → ℕ → Fate → Option SentFrame → Medium → Medium
dropped line from to fate None medium = medium
dropped line from to fate (Some last) medium =
    if last.from == from then record medium {
      pending = without (position (is_of_line last.line to) medium.pending) medium.pending;
      ended = medium.ended ++ record { from = from; to = to; sent = last.line; ended = line; fate = fate } ∷ [];
    }
    else medium

-- ---- lines

abbrev pub after_input : ℕ → ℕ → Input → Medium → Medium
after_input line mote (Input.Tick ticks) medium = medium
after_input line mote (Input.Serial digits) medium = medium
after_input line mote (Input.Frame digits) medium = heard_by line mote digits medium

abbrev pub after_note : ℕ → ℕ → Note → Medium → Medium
after_note line mote (Note.Lost reason) medium = medium
after_note line mote (Note.Sent digits) medium = sent_by line mote digits medium

abbrev pub after_line_of : ℕ → ℕ → Line → Medium → Medium
after_line_of line mote (Line.Input input) medium = after_input line mote input medium
after_line_of line mote (Line.Turn turn) medium = medium
after_line_of line mote (Line.Note note) medium = after_note line mote note medium
after_line_of line mote (Line.Ending ending) medium = medium

-- the network after the line of this position
abbrev pub after_line : ℕ → NetworkLine → Medium → Medium
after_line line (NetworkLine.Clock moment) medium = record medium { clock = moment }
after_line line (NetworkLine.Mote mote read) medium = after_line_of line mote read medium
after_line line (NetworkLine.Lost from to) medium = dropped line from to Fate.Lost medium.last medium
after_line line (NetworkLine.Full from to) medium = dropped line from to Fate.Full medium.last medium
after_line line (NetworkLine.Missed from to) medium = missed_by line from to medium
after_line line (NetworkLine.Unheard mote) medium = medium
after_line line (NetworkLine.Ending ending) medium = medium

-- after all of these, of which the first has this position
abbrev pub after : ℕ → List NetworkLine → Medium → Medium
after line [] medium = medium
after line (read ∷ lines) medium = after (line + 1) lines (after_line line read medium)

abbrev pub at_start : List Link → Medium
at_start links = record { links = links; clock = 0; last = None; pending = []; ended = []; outside = [] }

abbrev pub at_end : List Link → List NetworkLine → Medium
at_end links lines = after 0 lines (at_start links)

-- all flights of a run, in the order in which they ended
abbrev pub flights_by : ℕ → Medium → List Flight
flights_by lines medium = medium.ended ++ map (λ frame. ended frame lines Fate.UnderWay) medium.pending
