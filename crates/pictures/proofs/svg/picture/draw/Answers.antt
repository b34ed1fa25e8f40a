use Rattle.std.proofs.lemmas.List.{length-map}
use Rattle.pictures.proofs.RowTitles.{picture-shown}
use Rattle.pictures.proofs.svg.picture.draw.Goals as goal

pub returns-clause-titles : goal.returns-clause-titles
returns-clause-titles c =
    picture-shown c.args.lines.now c.args.settings.now.from c.args.settings.now.to c.args.settings.now.unfolded c.shown_of-shown.result
    c.as_slice-rows.result.now c.in_ok-text.text.items
    (record {
      order = c.shown_of-shown.ensures.order;
      there = rw length-map c.shown_of-shown.ensures.there;
      first = c.shown_of-shown.ensures.first;
      last = rw length-map c.shown_of-shown.ensures.last;
      between = c.shown_of-shown.ensures.between;
    })
    (rw c.as_slice-rows.ensures.value c.in_ok-rows.ensures.cover) (rw c.as_slice-rows.ensures.value c.in_ok-rows.ensures.plain)
    (rw c.as_slice-rows.ensures.value c.in_ok-rows.ensures.again)
    c.in_ok-text.ensures.shows_rows
