-- Bytes that go into the ring together.
use Rattle.std.specs.Prelude.{ℕ, ◌+◌, Bool, not, ◌&&◌, List, length, ◌==◌, nat_le}
use Rattle.std.specs.List.{list_any}
use Rattle.mote_types.specs.Limits.{ring_places}
use Rattle.device_core.specs.SerialLine.{SerialLine}

-- outside the overflow state none of the bytes is ignored or lost
abbrev pub takes_all : SerialLine → List ℕ → Bool
takes_all serial bytes =
    not serial.overflow && nat_le (length serial.ring + length bytes) ring_places && not (list_any (λ byte. byte == 13) bytes)

-- nothing waits, no line has begun, and no byte was lost since the last line end
abbrev pub is_quiet : SerialLine → Bool
is_quiet serial = not serial.overflow && length serial.ring == 0 && length serial.line == 0
