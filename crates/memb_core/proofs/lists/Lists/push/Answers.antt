use Rattle.memb_core.proofs.Lemmas.{absent_after}
use Rattle.memb_core.proofs.lists.Lists.push.Goals as goal

pub put_in_front-requires-clause-not_linked : goal.put_in_front-requires-clause-not_linked
put_in_front-requires-clause-not_linked c =
    absent_after c.args.b
    c.take_out.ensures.others c.take_out.ensures.list c.requires.not_linked
