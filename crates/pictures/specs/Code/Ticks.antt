-- The ticks of a line that was read.
use Rattle.std.specs.Prelude.{ℕ, Option, unwrap_or, option_and_then}
use Rattle.pictures.specs.Transcript.Lines.{line_ticks}
use Rattle.pictures.specs.declared.transcript.line.Line.{Line}

abbrev pub ticks_by : Option Line → ℕ
ticks_by line = unwrap_or (option_and_then line_ticks line) 0
