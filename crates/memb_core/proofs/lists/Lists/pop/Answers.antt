use Rattle.memb_core.proofs.Lemmas.{rules, arith, refl, sym, listed_below, link_small, start_listed, head_out, made}
use Rattle.memb_core.proofs.lists.Lists.pop.Goals as goal

pub link-next-requires : goal.link-next-requires
link-next-requires c = grind (
  arith,
  listed_below,
  link_small,
  start_listed c.args.name c.in_ok-head.head c.requires
      (sym c.in_ok-head.ensures.start),
)

pub returns : goal.returns
returns c =
    let is = made c.requires
    (head_out c.args.name c.requires c.in_ok-head.head c.put_head.new.self (sym c.in_ok-head.ensures.start) (grind arith)) refl in
    record { head = search rules; list = is.0; others = is.1 }
