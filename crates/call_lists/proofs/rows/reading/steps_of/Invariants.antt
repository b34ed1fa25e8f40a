use Rattle.std.proofs.Common.{length}
use Rattle.call_lists.specs.Code.Lists.{behind_comma}
use Rattle.call_lists.specs.RowTexts.{AreCalls, AreOfParts}
use Rattle.call_lists.proofs.Parting.{IsOnward}
use Rattle.call_lists.proofs.rows.reading.steps_of.Given as goal

-- the calls of the parts so far were added
abbrev pub invariant-loop-left : goal.invariant-loop-left
invariant-loop-left l = IsOnward AreOfParts (AreCalls l.text) l.left l.steps.items

abbrev pub decreases-loop-left : goal.decreases-loop-left
decreases-loop-left l = length (behind_comma l.left)
