use Rattle.memb_core.proofs.Lemmas.{rules, arith, length-set, get_or-set_other, pool_of, link_of, live_below, pool_freed, differ}
use Rattle.memb_core.proofs.pool.Pool.free.Goals as goal

pub put_used-requires : goal.put_used-requires
put_used-requires c = grind (arith, live_below)

pub returns : goal.returns
unfolding pool_of link_of
returns c =
    let is = pool_freed c.args.self.now c.args.arena.now.bytes c.args.b
    (live_below c.args.self.now c.args.arena.now.bytes c.args.b c.requires.live) in
    record {
      block = cc;
      linked = grind (arith, length-set, get_or-set_other, differ);
      lists = grind arith;
      rest = search rules;
    }
