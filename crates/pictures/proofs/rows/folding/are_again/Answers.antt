use Rattle.std.proofs.Common.{◌-◌, refl}
use Rattle.pictures.proofs.Again.{one_more}
use Rattle.pictures.proofs.rows.folding.are_again.Goals as goal

pub loop-index-preserved : goal.loop-index-preserved
loop-index-preserved c = one_more c.args.lines.now
    (c.args.at - c.args.before) c.args.at c.loop-index.index _ c.ne.result refl c.loop-index.invariant c.ne.ensures c.if-ne.false
