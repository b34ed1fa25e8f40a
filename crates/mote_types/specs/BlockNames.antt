-- The names of blocks of managed and of heap memory: a process, and the number of its handle or block.
use Rattle.std.specs.Prelude.{ℕ, ◌+◌, ◌-◌, ◌*◌}
use Rattle.mote_types.specs.Kinds.{ProcessNumber, Handle}
use Rattle.mote_types.specs.Limits.{packet_process, blocks_each}

-- the position of a name in a table of all names
abbrev pub number_of : ProcessNumber → Handle → ℕ
number_of p h = (p - packet_process) * blocks_each + h
