-- The event numbers in the definitions: those of process.h, from PROCESS_EVENT_NONE on, and three of this project's own.
use Rattle.std.specs.Prelude.{ℕ}

abbrev pub NONE : ℕ
NONE = 128

abbrev pub INIT : ℕ
INIT = 129

abbrev pub POLL : ℕ
POLL = 130

abbrev pub EXIT : ℕ
EXIT = 131

abbrev pub SERVICE_REMOVED : ℕ
SERVICE_REMOVED = 132

abbrev pub CONTINUE : ℕ
CONTINUE = 133

abbrev pub EXITED : ℕ
EXITED = 135

abbrev pub TIMER : ℕ
TIMER = 136

abbrev pub SERIAL_LINE : ℕ
SERIAL_LINE = 138

abbrev pub PACKET : ℕ
PACKET = 139

-- the first number that AllocEvent returns
abbrev pub FIRST_FREE : ℕ
FIRST_FREE = 140
