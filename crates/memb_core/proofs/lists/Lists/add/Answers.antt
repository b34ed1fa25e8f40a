use Rattle.memb_core.proofs.Lemmas.{arith, sym, list_of, absent_after, at_tail, no_tail}
use Rattle.memb_core.proofs.lists.Lists.add.Goals as goal

pub put_behind-requires-clause-not_linked : goal.put_behind-requires-clause-not_linked
put_behind-requires-clause-not_linked c =
    absent_after c.args.b c.take_out.ensures.others c.take_out.ensures.list c.requires.not_linked

pub put_behind-requires-clause-listed : goal.put_behind-requires-clause-listed
put_behind-requires-clause-listed c =
    (at_tail c.in-Some.tail 0 (list_of c.args.name c.take_out.new.self c.args.pool.now c.take_out.new.arena.bytes)
    (c.take_out.ensures.others.linked.each c.args.name).distinct (sym c.in-Some.ensures)).0

pub put_in_front-requires-clause-not_linked : goal.put_in_front-requires-clause-not_linked
put_in_front-requires-clause-not_linked c =
    absent_after c.args.b c.take_out.ensures.others c.take_out.ensures.list c.requires.not_linked

pub returns-in-Some-clause-list : goal.returns-in-Some-clause-list
returns-in-Some-clause-list c =
    grind (
      arith,
      at_tail c.in-Some.tail c.args.b (list_of c.args.name c.take_out.new.self c.args.pool.now c.take_out.new.arena.bytes)
          (c.take_out.ensures.others.linked.each c.args.name).distinct (sym c.in-Some.ensures),
    )

pub returns-in-None-clause-list : goal.returns-in-None-clause-list
returns-in-None-clause-list c = grind (arith, no_tail)
