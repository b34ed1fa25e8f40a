use Rattle.std.proofs.Common.{◌<◌, length, arith}
use Rattle.pictures.proofs.Room.{exceeds_more, fits_more}
use Rattle.pictures.proofs.facts.exceeds.Goals.{then-saturating_add-size, else-saturating_add-size}
use Rattle.pictures.proofs.facts.exceeds.Goals as goal

pub loop-index-preserved : goal.loop-index-preserved
loop-index-preserved c =
    let stays = c.args.stays.now in
    let index = c.loop-index.index in
    let first = c.loop-index.first in
    let inside : index < length stays = omega (arith, c.loop-index-test.true) in
    elim c.if-saturating_add-size.branch [
      | then-saturating_add-size w ↦
          rw (w.first-is, w.min.ensures, w.unwrap_or.ensures)
          (exceeds_more c.args.size stays index _ first c.saturating_add.result inside c.loop-index.invariant c.saturating_add.ensures
          (omega (arith, w.if-saturating_add-size)))
      | else-saturating_add-size w ↦
          rw w.first-is
          (fits_more c.args.size stays index _ first c.saturating_add.result inside c.loop-index.invariant c.saturating_add.ensures
          (omega (arith, w.if-saturating_add-size)) (omega (arith, c.ranges.size.fits)))
    ]
