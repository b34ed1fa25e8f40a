use Rattle.memb_core.proofs.Lemmas.{◌≢◌, rules, arith, ◌∙◌, live_is, live_below, IsWithin-kept, link_small, behind_in, made}
use Rattle.memb_core.proofs.lists.Lists.put_behind.Goals as goal

pub link-next-requires-clause-number : goal.link-next-requires-clause-number
link-next-requires-clause-number c = link_small c.args.name c.args.prev c.requires.linked c.requires.listed

pub put_link-requires-clause-block : goal.put_link-requires-clause-block
put_link-requires-clause-block c = grind (arith, live_below)

pub returns : goal.returns
returns c =
    let apart : c.args.prev ≢ c.args.b = grind arith in
    let is = made c.requires.linked
    (behind_in c.args.name c.requires.linked c.args.b (grind (arith, live_is)) c.requires.not_linked c.put_link-2.new.arena.bytes
    (IsWithin-kept c.put_link-2.ensures.rest (IsWithin-kept c.put_link.ensures.rest c.requires.linked.within)) c.args.prev
    c.requires.listed (grind arith) c.put_link-2.ensures.link
    (λ d far far'. c.put_link-2.ensures.others d far' ∙ c.put_link.ensures.others d far))
    (c.put_link-2.ensures.blocks ∙ c.put_link.ensures.blocks) in
    record { list = is.0; others = is.1; rest = search rules }
