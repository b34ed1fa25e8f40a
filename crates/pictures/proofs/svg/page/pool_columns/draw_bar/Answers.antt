use Rattle.pictures.proofs.svg.page.pool_columns.draw_bar.Goals as goal

pub returns : goal.returns
returns c =
    let words = rw (c.as_str.ensures.value, c.as_str-2.ensures.value, c.in_ok-class.ensures, c.in_ok-title.ensures) at c.area.ensures in
    rw c.area_of-area.ensures.area at words
