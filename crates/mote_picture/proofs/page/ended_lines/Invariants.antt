use Rattle.std.proofs.Common.{◌≡◌, ◌++◌, take, string_bytes}
use Rattle.mote_picture.specs.Page.{ended_lines}
use Rattle.mote_picture.proofs.page.ended_lines.Given as goal

abbrev pub invariant-loop-line : goal.invariant-loop-line
invariant-loop-line l = string_bytes l.text ≡ string_bytes l.initial.text ++ ended_lines (take l.line-index l.lines)
