use Rattle.std.proofs.lemmas.List.{take_more}
use Rattle.pictures.specs.declared.rows.row.Show.{Show}
use Rattle.pictures.specs.Svg.Titles.AreGrounds.{none, one_more}
use Rattle.pictures.proofs.svg.grounds.grounds_of.Goals as goal

pub loop-row-init : goal.loop-row-init
loop-row-init c = rw c.new-grounds.ensures none

pub loop-row-preserved : goal.loop-row-preserved
loop-row-preserved c =
    let more = take_more c.args.rows.now c.loop-row.row-index (record { first = 0; count = 0; show = Show.Lines }) c.loop-row-test.true in
    rw (c.in_ok-hold.ensures, more) (one_more c.loop-row.invariant _ c.in_ok-ground.ground c.in_ok-ground.ensures)
