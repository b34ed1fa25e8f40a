use Rattle.std.proofs.Common.{◌≡◌, ◌++◌, take, string_bytes}
use Rattle.pictures.specs.Svg.Titles.{ended_lines}
use Rattle.pictures.specs.Rows.{bytes_of}
use Rattle.pictures.proofs.svg.grounds.raw_lines.Given as goal

abbrev pub invariant-loop-line : goal.invariant-loop-line
invariant-loop-line l = string_bytes l.text ≡ string_bytes l.initial.text ++ ended_lines (bytes_of (take l.line-index l.lines))
