use Rattle.memb_core.proofs.Lemmas.{arith, list_of, absent_after, has_left}
use Rattle.memb_core.proofs.lists.Lists.insert.Goals as goal

pub put_behind-requires-clause-not_linked : goal.put_behind-requires-clause-not_linked
put_behind-requires-clause-not_linked c =
    absent_after c.args.b c.take_out.ensures.others c.take_out.ensures.list c.requires.not_linked

pub put_behind-requires-clause-listed : goal.put_behind-requires-clause-listed
put_behind-requires-clause-listed c =
    grind (arith, has_left c.args.b c.args.prev (list_of c.args.name c.args.self.now c.args.pool.now c.args.arena.now.bytes))
