-- What one of the kernel's processes reads of an event.
use Rattle.std.specs.Prelude.{ℕ, ◌&&◌, Option, Some, None, if◌then◌else◌, nat_le}
use Rattle.mote_types.specs.Kinds.{ProcessNumber}
use Rattle.mote_types.specs.Limits.{first_application, last_application}
use Rattle.mote_types.specs.declared.event.Payload.{Payload}

-- the number that an event carries, or 0
abbrev pub number_in : Payload → ℕ
number_in (Payload.Num number) = number
number_in _ = 0

-- the application that an EXITED event with this number names
abbrev pub exited_numbered : ℕ → Option ProcessNumber
exited_numbered number = if nat_le first_application number && nat_le number last_application then Some number else None
