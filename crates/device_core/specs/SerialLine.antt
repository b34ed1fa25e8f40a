-- The serial line: bytes arrive through a ring, and leave as lines.
use Rattle.std.specs.Prelude.{ℕ, Bool, true, false, not, ◌&&◌, [], ◌∷◌, ◌++◌, length, take, Option, Some, None, if◌then◌else◌, ◌==◌, nat_lt}
use Rattle.std.specs.List.{list_any, before_first, after_first, fold}
use Rattle.arrayvec.specs.ArrayVec.{ArrayVec}
use Rattle.mote_types.specs.Kinds.{Bytes}
use Rattle.mote_types.specs.Limits.{ring_places, line_bytes}

pub record SerialLine : Type 0 where
  pub ring : Bytes
  -- a byte was lost, and no line end was taken since
  pub overflow : Bool
  -- the beginning of a line
  pub line : Bytes

abbrev pub quiet_line : SerialLine
quiet_line = record { ring = []; overflow = false; line = [] }

abbrev pub is_line_end : ℕ → Bool
is_line_end byte = byte == 10

-- a byte arrives. Byte 13 is ignored. In the overflow state only a line end is taken, which ends that state
abbrev pub after_byte : SerialLine → ℕ → SerialLine
after_byte serial byte =
    if byte == 13 then serial
    else if not (nat_lt (length serial.ring) ring_places) then record serial { overflow = true }
    else if serial.overflow && not (is_line_end byte) then serial
    else record serial { ring = serial.ring ++ byte ∷ []; overflow = false }

abbrev pub after_bytes : SerialLine → Bytes → SerialLine
after_bytes serial bytes = fold after_byte serial bytes

abbrev pub has_line : SerialLine → Bool
has_line serial = list_any is_line_end serial.ring

-- of a line that is too long only its first bytes are kept
abbrev pub with_bytes : Bytes → Bytes → Bytes
with_bytes line bytes = take line_bytes (line ++ bytes)

abbrev pub next_line : SerialLine → Option Bytes
next_line serial = if has_line serial then Some (with_bytes serial.line (before_first is_line_end serial.ring)) else None

-- the state after the next whole line was taken. Without one, all bytes of the ring go into the line that began
abbrev pub after_line : SerialLine → SerialLine
after_line serial =
    if has_line serial
    then record serial { ring = after_first is_line_end serial.ring; line = [] }
    else record serial { ring = []; line = with_bytes serial.line serial.ring }

abbrev pub line_of : Bytes → ArrayVec ℕ
line_of bytes = record { items = bytes }
