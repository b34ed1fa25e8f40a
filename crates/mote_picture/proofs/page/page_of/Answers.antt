use Rattle.mote_picture.proofs.page.page_of.Goals as goal

pub returns : goal.returns
returns c =
    rw (c.as_str.ensures.value, c.in_ok-front.ensures, c.as_str-2.ensures.value, c.in_ok-back.ensures) at c.page_between.ensures
