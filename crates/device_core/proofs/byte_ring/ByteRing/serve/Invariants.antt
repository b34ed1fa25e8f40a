use Rattle.std.proofs.Common.{◌≡◌, ◌≤◌, length}
use Rattle.mote_types.specs.Limits.{ring_places, line_bytes}
use Rattle.device_core.proofs.Lines.{ServesAlike, state}
use Rattle.device_core.proofs.byte_ring.ByteRing.serve.Given as goal

-- bytes taken from the ring are in the line, so serving the rest serves all
abbrev pub invariant-loop-byte : goal.invariant-loop-byte
invariant-loop-byte l = record {
  alike : ServesAlike (state l.self-inside.ring.items l.self-inside.overflow l.self-inside.line.items) l.fn.self;
  room : l.self-inside.ring.capacity ≡ ring_places;
  shrinks : length l.self-inside.ring.items ≤ length l.fn.self.ring;
  fits : length l.self-inside.line.items ≤ line_bytes;
}

abbrev pub decreases-loop-byte : goal.decreases-loop-byte
decreases-loop-byte l = length l.self-inside.ring.items
