use Rattle.std.proofs.lemmas.Result.{IfOk-weaker}
use Rattle.pictures.proofs.RowTitles.{Cover-within}
use Rattle.pictures.proofs.svg.picture.draw_rows.Goals as goal

pub grounds_of-requires : goal.grounds_of-requires
grounds_of-requires c =
    Cover-within _ c.args.shown.first c.args.rows.now c.args.shown.end c.requires.cover c.requires.there

pub returns-clause-shows_rows : goal.returns-clause-shows_rows
returns-clause-shows_rows c =
    IfOk-weaker c.document_of.result _ _
    (λ picture drawn. record {
      under = c.draw_under.new.pen.content;
      grounds = c.in_ok-grounds.grounds;
      over = c.draw_over.new.pen.content;
      are_grounds = c.in_ok-grounds.ensures;
      is_drawn = drawn;
    })
    c.document_of.ensures.drawn
