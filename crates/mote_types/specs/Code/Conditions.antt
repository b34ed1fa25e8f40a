-- What calls require of the names in their arguments.
use Rattle.std.specs.Prelude.{◌≤◌}
use Rattle.mote_types.specs.Kinds.{ProcessNumber, Handle}
use Rattle.mote_types.specs.Limits.{packet_process, last_application, last_block}

-- process 3 and the applications have blocks 0 to 15
abbrev pub IsName : ProcessNumber → Handle → Type 0
IsName p h = (packet_process ≤ p) × (p ≤ last_application) × (h ≤ last_block)
