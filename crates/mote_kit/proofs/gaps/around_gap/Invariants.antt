use Rattle.std.proofs.Common.{take}
use Rattle.mote_kit.specs.Gaps.{texts}
use Rattle.mote_kit.specs.Code.Parts.{HasNoGap}
use Rattle.mote_kit.proofs.gaps.around_gap.Given as goal

abbrev pub invariant-loop-index : goal.invariant-loop-index
invariant-loop-index l = HasNoGap (texts (take l.index l.lines))
