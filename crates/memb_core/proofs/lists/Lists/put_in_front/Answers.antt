use Rattle.memb_core.proofs.Lemmas.{rules, arith, ◌∙◌, live_is, live_below, IsWithin-kept, front_in, made}
use Rattle.memb_core.proofs.lists.Lists.put_in_front.Goals as goal

pub put_link-requires-clause-block : goal.put_link-requires-clause-block
put_link-requires-clause-block c = grind (arith, live_below)

pub returns : goal.returns
returns c =
    let is = made c.requires.linked
    (front_in c.args.name c.requires.linked c.args.b (grind (arith, live_is)) c.requires.not_linked c.put_link.new.arena.bytes
    (IsWithin-kept c.put_link.ensures.rest c.requires.linked.within) c.put_head.new.self c.put_head.ensures
    (c.put_link.ensures.link ∙ c.head.ensures.start) (λ d far. c.put_link.ensures.others d far))
    c.put_link.ensures.blocks in
    record { list = is.0; others = is.1; rest = search rules }
