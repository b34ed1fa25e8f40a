use Rattle.memb_core.proofs.Lemmas.{sym, ◌∙◌, list_of, at_tail}
use Rattle.memb_core.proofs.lists.Lists.chop.Goals as goal

pub returns-clause-list : goal.returns-clause-list
returns-clause-list c =
    c.take_out.ensures.list
    ∙ (at_tail c.in_ok-tail.tail 0 (list_of c.args.name c.args.self.now c.args.pool.now c.args.arena.now.bytes)
    (c.requires.each c.args.name).distinct (sym c.in_ok-tail.ensures)).2
