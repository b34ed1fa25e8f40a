use Rattle.memb_core.proofs.Lemmas.{arith, head_named}
use Rattle.memb_core.proofs.lists.Lists.head.Goals as goal

pub returns-in-First-clause-head : goal.returns-in-First-clause-head
returns-in-First-clause-head c pool bytes linked = grind (arith, head_named _ _ _ (linked.each c.args.name).ends)

pub returns-in-Second-clause-head : goal.returns-in-Second-clause-head
returns-in-Second-clause-head c pool bytes linked = grind (arith, head_named _ _ _ (linked.each c.args.name).ends)
