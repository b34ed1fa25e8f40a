use Rattle.mote_kit.specs.Gaps.{texts}
use Rattle.mote_kit.specs.Code.Parts.{IsNotEarlier}
use Rattle.mote_kit.proofs.gaps.rest_after.Given as goal

abbrev pub invariant-loop-start : goal.invariant-loop-start
invariant-loop-start l = IsNotEarlier (texts l.lines) (texts l.text) l.start
