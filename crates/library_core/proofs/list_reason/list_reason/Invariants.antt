use Rattle.library_core.proofs.Parts.{IsLeft, size_of}
use Rattle.library_core.proofs.list_reason.list_reason.Given as goal

-- the parts so far are calls
abbrev pub invariant-loop-left : goal.invariant-loop-left
invariant-loop-left l = IsLeft l.text l.index l.left

abbrev pub decreases-loop-left : goal.decreases-loop-left
decreases-loop-left l = size_of l.left
