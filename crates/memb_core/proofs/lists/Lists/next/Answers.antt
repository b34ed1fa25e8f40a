use Rattle.memb_core.proofs.Lemmas.{◌∙◌, next_named, listed_below, link_small}
use Rattle.memb_core.proofs.lists.Lists.next.Goals as goal

pub link-requires-clause-block : goal.link-requires-clause-block
link-requires-clause-block c = listed_below c.args.name c.args.b c.requires.linked c.requires.listed

pub link-requires-clause-number : goal.link-requires-clause-number
link-requires-clause-number c = link_small c.args.name c.args.b c.requires.linked c.requires.listed

pub returns : goal.returns
returns c = c.link.ensures ∙ next_named _ _ c.args.b _ (c.requires.linked.each c.args.name).ends c.requires.listed
