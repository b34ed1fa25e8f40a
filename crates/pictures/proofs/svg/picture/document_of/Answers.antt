use Rattle.std.proofs.lemmas.Result.{IfOk-weaker}
use Rattle.pictures.proofs.Drawn.{whole-around}
use Rattle.pictures.proofs.svg.picture.document_of.Goals as goal

pub returns-clause-drawn : goal.returns-clause-drawn
returns-clause-drawn c =
    IfOk-weaker c.document.result _ _
    (λ picture is. record {
      attributes = c.in_ok-picture.picture.attributes;
      are_attributes = c.is_well_formed-3.ensures.attributes;
      is_under = c.is_well_formed.ensures;
      is_over = c.is_well_formed-2.ensures;
      whole = whole-around c.in_ok-frame_of.field-0 c.in_ok-around.field-0 c.in_ok-around-2.field-0 c.in_ok-picture.picture
          c.args.under.now c.args.grounds.now c.args.over.now picture.items c.in_ok-frame_of.ensures.tag c.in_ok-frame_of.ensures.inside
          c.in_ok-around.ensures c.in_ok-around-2.ensures c.in_ok-picture.ensures is;
    })
    c.document.ensures.text
