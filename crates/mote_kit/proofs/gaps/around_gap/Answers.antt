use Rattle.mote_kit.proofs.Fitting.{cut_at}
use Rattle.mote_kit.proofs.gaps.around_gap.Goals as goal

pub returns-then-eq : goal.returns-then-eq
returns-then-eq c = (c.loop-index.invariant, cut_at c.loop-index.index c.args.lines.now _ c.loop-index-test.true c.if-eq.ensures)
