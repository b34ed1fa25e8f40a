-- A whole line that is stored apart from the ring.
use Rattle.std.specs.Prelude.{ℕ, ◌≡◌, ◌<◌, ◌-◌, Bool, true, false, not, ◌&&◌, List, [], ◌∷◌, ◌++◌, length, take, slice_index_or, nat_le}
use Rattle.std.specs.List.{list_any}
use Rattle.mote_types.specs.Limits.{ring_places}
use Rattle.device_core.specs.SerialLine.{SerialLine, is_line_end}

-- the line that has begun, and its end, are in the ring
abbrev pub in_ring : SerialLine → SerialLine
in_ring serial = record serial { ring = serial.line ++ 10 ∷ []; line = [] }

-- what the fields stand for, where a whole line may be stored in place of one that has begun
abbrev pub state_of : Bool → SerialLine → SerialLine
state_of true serial = in_ring serial
state_of false serial = serial

-- a whole line without its end, and nothing else
pub record IsWholeLine (serial : SerialLine) : Type 0 where
  pub empty : serial.ring ≡ []
  pub heard : serial.overflow ≡ false
  pub room : length serial.line < ring_places
  pub plain : list_any is_line_end serial.line ≡ false

-- a byte is at most 13: a line end, one that is ignored, or another of the first control characters
abbrev pub has_low_byte : List ℕ → Bool
has_low_byte bytes = list_any (λ byte. nat_le byte 13) bytes

-- these bytes are a line and its end, for which the ring has room; no other byte is low
abbrev pub is_one_line : List ℕ → Bool
is_one_line bytes =
    nat_le (length bytes) ring_places && is_line_end (slice_index_or bytes (length bytes - 1) 0)
    && not (has_low_byte (take (length bytes - 1) bytes))
