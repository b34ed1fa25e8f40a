-- Kinds of numbers and of lists, for signatures. They are aliases: a handle is a number, as any other.
use Rattle.std.specs.Prelude.{ℕ, List}

abbrev pub ProcessNumber : Type 0
ProcessNumber = ℕ

abbrev pub EventCode : Type 0
EventCode = ℕ

abbrev pub TimerNumber : Type 0
TimerNumber = ℕ

-- moments, and lengths of time
abbrev pub Ticks : Type 0
Ticks = ℕ

-- the number of a managed or heap block, of one process
abbrev pub Handle : Type 0
Handle = ℕ

-- the number of a block of a pool
abbrev pub BlockNumber : Type 0
BlockNumber = ℕ

-- the position of a byte in a block
abbrev pub Offset : Type 0
Offset = ℕ

abbrev pub Bytes : Type 0
Bytes = List ℕ
