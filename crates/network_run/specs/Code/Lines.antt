-- What a line says, as its specification does.
use Rattle.std.specs.Prelude.{Option, None, Some}
use Rattle.network_run.specs.declared.script.Line.{Line}
use Rattle.network_steps.specs.declared.input.NetworkInput.{NetworkInput}

abbrev pub said_by : Line → Option (Option NetworkInput)
said_by Line.Malformed = None
said_by Line.Nothing = Some None
said_by (Line.Input input) = Some (Some input)
