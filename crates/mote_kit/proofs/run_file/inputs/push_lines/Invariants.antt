use Rattle.std.proofs.Common.{◌≡◌, ◌++◌, string_bytes}
use Rattle.mote_kit.specs.NewLines.{repeated}
use Rattle.mote_kit.proofs.run_file.inputs.push_lines.Given as goal

abbrev pub invariant-loop : goal.invariant-loop
invariant-loop l = string_bytes l.text ≡ string_bytes l.fn.text ++ repeated l.counter l.line
