use Rattle.std.proofs.Common.{◌<◌, append_assoc, refl}
use Rattle.pictures.proofs.PoolNumbers.{texts_more}
use Rattle.pictures.proofs.svg.page.pool_columns.draw_names.Goals as goal

pub loop-pool-preserved : goal.loop-pool-preserved
loop-pool-preserved c =
    let there : c.loop-pool.pool < 4 = c.loop-pool-test.true in
    rw (c.in_ok-draw_column.ensures, c.loop-pool.invariant, texts_more, append_assoc) refl
