use Rattle.pictures.proofs.svg.page.pool_columns.draw_pool_ground.Goals as goal

pub returns : goal.returns
returns c =
    rw (c.pool_left-left.ensures, c.below.ensures.count, c.as_str.ensures.value, c.in_ok-name.ensures) at c.draw_ground.ensures
