use Rattle.memb_core.proofs.Lemmas.{arith, length, ◌≡◌, Some, slice_get, slice_get_within, link_of, start_of, list_of, walk_ended, walk_more, has_at, length-all_along, listed_below, link_small}
use Rattle.memb_core.proofs.lists.Lists.numbers.Goals as goal
use Rattle.memb_core.proofs.lists.Lists.numbers.Goals.{In-Some}

at : (c : In-Some)
    → slice_get (list_of c.args.name c.args.self.now c.args.pool.now c.args.arena.now.bytes) (length c.loop-link.numbers.items)
    ≡ Some c.in-Some.b
at c = grind arith

pub push-requires : goal.push-requires
push-requires c = grind (arith, slice_get_within, length-all_along)

pub link-link-requires : goal.link-link-requires
link-link-requires c =
    grind (
      arith,
      listed_below,
      link_small,
      has_at (length c.loop-link.numbers.items) c.in-Some.b
          (list_of c.args.name c.args.self.now c.args.pool.now c.args.arena.now.bytes) (at (goal.at.link-link-requires c).In-Some),
    )

pub loop-link-smaller : goal.loop-link-smaller
loop-link-smaller c = grind (arith, slice_get_within, length-all_along)

pub loop-link-preserved : goal.loop-link-preserved
loop-link-preserved c =
    let lists = c.args.self.now in let pool = c.args.pool.now in let bytes = c.args.arena.now.bytes in
    grind (
      arith,
      walk_more (link_of pool bytes) (start_of c.args.name lists) c.in-Some.b c.loop-link.numbers.items
          (list_of c.args.name lists pool bytes) (c.requires.each c.args.name).ends,
    )

pub returns : goal.returns
returns c = walk_ended c.loop-link.numbers.items (list_of c.args.name c.args.self.now c.args.pool.now c.args.arena.now.bytes)
    (rw c.in_default.is at c.loop-link.invariant)
