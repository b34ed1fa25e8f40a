-- What handing in an input, and making an entry, ask.
use Rattle.std.specs.Prelude.{Bool, true, ℕ, length, nat_lt, ◌<◌, ◌+◌, ◌*◌}
use Rattle.mote_types.specs.Kinds.{Ticks}
use Rattle.mote_types.specs.declared.entry.Input.{Input}
use Rattle.kernel_core.specs.declared.step.Step.{Step}
use Rattle.kernel_core.specs.Mote.{Mote}
use Rattle.kernel_core.specs.Run.{work_limit}

-- by how much an input moves the clock
abbrev pub ticks_of : Input → Ticks
ticks_of (Input.Tick n) = n
ticks_of _ = 0

-- a frame has at least one byte
abbrev pub has_bytes : Input → Bool
has_bytes (Input.Frame bytes) = nat_lt 0 (length bytes.items)
has_bytes _ = true

-- an entry that is made is one less that can be made
abbrev pub TakesEntry : Step → Mote → Mote → Type 0
TakesEntry (Step.Entry entry) old new = new.entries_left < old.entries_left
TakesEntry _ old new = Unit {0}

-- no mote can make more entries before it rests: halt, an input and a note, and for each turn or round two
abbrev pub most_entries_left : ℕ
most_entries_left = 3 + 2 * work_limit
