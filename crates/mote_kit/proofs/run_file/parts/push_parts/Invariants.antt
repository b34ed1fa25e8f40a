use Rattle.std.proofs.Common.{List, ℕ}
use Rattle.std.specs.List.{All}
use Rattle.mote_kit.specs.Parts.{IsPartOf}
use Rattle.mote_kit.proofs.run_file.parts.push_parts.Given as goal

abbrev pub invariant-loop-part : goal.invariant-loop-part
invariant-loop-part l = (whole : List ℕ) → All (IsPartOf l.path whole) l.fn.parts.items → All (IsPartOf l.path whole) l.parts.items
