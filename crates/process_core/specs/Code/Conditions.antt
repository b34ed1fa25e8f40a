-- What calls ask of a process number.
use Rattle.std.specs.Prelude.{ℕ, ◌≡◌, true}
use Rattle.mote_types.specs.Kinds.{ProcessNumber}
use Rattle.process_core.specs.Processes.{is_application}

abbrev pub IsApplication : ℕ → ProcessNumber → Type 0
IsApplication applications p = is_application applications p ≡ true
