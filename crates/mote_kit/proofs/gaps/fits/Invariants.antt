use Rattle.std.proofs.Common.{◌↔◌, ◌∷◌, length}
use Rattle.mote_kit.specs.Gaps.{Fits, gap, texts}
use Rattle.mote_kit.proofs.gaps.fits.Given as goal

abbrev pub invariant-loop-part : goal.invariant-loop-part
invariant-loop-part l = Fits (texts l.fn.wanted) (texts l.fn.found) ↔ Fits (gap ∷ texts l.wanted) (texts l.found)

abbrev pub decreases-loop-part : goal.decreases-loop-part
decreases-loop-part l = length l.wanted
