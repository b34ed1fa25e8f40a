use Rattle.std.proofs.Common.{◌≤◌, ◌-◌, length}
use Rattle.pictures.specs.Rows.{AreAgain, bytes_of}
use Rattle.pictures.proofs.rows.folding.end_of_repeats.Given as goal

abbrev pub invariant-loop-end : goal.invariant-loop-end
invariant-loop-end l = record {
  after : l.at ≤ l.end;
  there : l.end ≤ length l.lines;
  again : AreAgain (bytes_of l.lines) l.count l.at l.end;
}

abbrev pub decreases-loop-end : goal.decreases-loop-end
decreases-loop-end l = length l.lines - l.end
