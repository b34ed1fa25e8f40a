use Rattle.std.proofs.Common.{◌≡◌, ◌-◌, ◌++◌, drop, take, length}
use Rattle.medium_core.specs.Air.{after_frames, begun}
use Rattle.medium_core.specs.Flights.{with_flights}
use Rattle.medium_core.proofs.medium.send_over.Given as goal

abbrev pub invariant-loop-link : goal.invariant-loop-link
invariant-loop-link l =
    record {
      position : l.position ≡ l.link-index;
      room : l.flights.room ≡ l.initial.flights.room;
      after : take l.link-index l.links ++ after_frames (l.flights.room - length l.flights.flights) (drop l.link-index l.links)
          ≡ after_frames (l.initial.flights.room - length l.initial.flights.flights) l.initial.links;
      left : drop l.link-index l.links ≡ drop l.link-index l.initial.links;
      flights : with_flights
          (begun (l.flights.room - length l.flights.flights) l.clock l.from l.bytes l.link-index (drop l.link-index l.initial.links)) l.flights.flights
          ≡ with_flights (begun (l.initial.flights.room - length l.initial.flights.flights) l.clock l.from l.bytes 0 l.initial.links) l.initial.flights.flights;
    }
