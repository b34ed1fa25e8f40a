use Rattle.std.proofs.Common.{◌≤◌, length}
use Rattle.library_core.specs.Outcomes.{AreOfLines}
use Rattle.library_core.proofs.ReadLines.{texts_of}
use Rattle.library_core.proofs.lines.read_applications.Given as goal

-- an application for each line so far, at most 16
abbrev pub invariant-loop-line : goal.invariant-loop-line
invariant-loop-line l = AreOfLines (texts_of l.yielded) l.applications.items × (length l.applications.items ≤ 16)
