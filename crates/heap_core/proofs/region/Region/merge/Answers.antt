use Rattle.heap_core.proofs.Lemmas.{sym, ◌∙◌, arith, edit_grown, edit_last, edit_list}
use Rattle.heap_core.proofs.region.Region.merge.Goals as goal

pub returns-then-end-self-clause-linked : goal.returns-then-end-self-clause-linked
returns-then-end-self-clause-linked c =
    let x = c.clear_away-first.ensures.cleared in
    edit_grown x.cut x.spliced c.requires.divided.gaps.linked x.linked c.requires.link
    (c.requires.reach.grows c.if-from-chunk.true ∙ sym (c.clear_away-first.ensures.begins (λ e. omega (arith, c.if-end-self.true))))
    c.clear_away-first.ensures.lowest

pub link_below-requires-clause-before : goal.link_below-requires-clause-before
link_below-requires-clause-before c =
    let x = c.clear_away-first-2.ensures.cleared in
    edit_last x.cut x.spliced c.requires.divided.gaps.linked c.gap_below-before.ensures

pub returns-clause-linked : goal.returns-clause-linked
returns-clause-linked c =
    let x = c.clear_away-first-2.ensures.cleared in
    edit_list x.cut x.spliced c.requires.divided.gaps.linked x.linked c.requires.link c.gap_below-before.ensures
    c.link_below.new.self c.link_below.new.arena.bytes c.clear_away-first-2.ensures.lowest c.link_below.ensures.relinked.linked
