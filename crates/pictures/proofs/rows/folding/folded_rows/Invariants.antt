use Rattle.std.proofs.Common.{◌≤◌, ◌-◌, All}
use Rattle.pictures.specs.Rows.{Cover, IsTrueRow, bytes_of}
use Rattle.pictures.proofs.rows.folding.folded_rows.Given as goal

abbrev pub invariant-loop-at : goal.invariant-loop-at
invariant-loop-at l = record {
  cover : Cover l.fn.first l.rows.items l.at;
  within : l.at ≤ l.end;
  again : All (IsTrueRow (bytes_of l.lines)) l.rows.items;
}

abbrev pub decreases-loop-at : goal.decreases-loop-at
decreases-loop-at l = l.end - l.at
