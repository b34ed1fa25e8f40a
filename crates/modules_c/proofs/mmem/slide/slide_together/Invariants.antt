use Rattle.std.proofs.Common.{◌-◌, length}
use Rattle.modules_c.proofs.MmemMidway.{IsMidway}
use Rattle.modules_c.proofs.mmem.slide.slide_together.Given as goal

abbrev pub invariant-loop-number : goal.invariant-loop-number
invariant-loop-number l = IsMidway l.initial.blocks l.blocks l.initial.buffer l.buffer l.end

abbrev pub decreases-loop-number : goal.decreases-loop-number
decreases-loop-number l = length l.initial.buffer - l.end
