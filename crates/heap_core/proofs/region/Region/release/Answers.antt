use Rattle.heap_core.proofs.Lemmas.{◌+◌, ap, arith, chunks_of, front_gap, link_small, gaps_few, end_below, around, reach, ReachesWithGaps}
use Rattle.heap_core.proofs.region.Region.release.Goals as goal
use Rattle.heap_core.proofs.region.Region.release.Goals.{After-link_after-link}

reaches : (c : After-link_after-link) → ReachesWithGaps c.args.self.now c.args.arena.now.bytes c.args.chunk c.free_before-from.result
    (c.args.chunk.at + c.args.chunk.len + c.gap_after-gap.result)
reaches c = reach (around c.requires.divided.chunks c.requires.live.stands) c.requires.live.live c.requires.divided.gaps.linked
    c.gaps_from-beside.ensures.below c.free_before-from.ensures
    (ap (λ k. c.args.chunk.at + c.args.chunk.len + k) c.gap_after-gap.ensures)

pub overflow_add-end : goal.overflow_add-end
overflow_add-end c = grind (arith, around c.requires.divided.chunks c.requires.live.stands)

pub overflow_add-end-2 : goal.overflow_add-end-2
overflow_add-end-2 c =
    let heap = c.args.self.now in let a = around c.requires.divided.chunks c.requires.live.stands in
    omega (arith, heap.small, end_below a, c.gap_after-gap.ensures, ap front_gap a.behind_is)

pub merge-requires-clause-reach : goal.merge-requires-clause-reach
merge-requires-clause-reach c = reaches (goal.at.merge-requires-clause-reach c).After-link_after-link

pub merge-requires-clause-small : goal.merge-requires-clause-small
merge-requires-clause-small c = link_small c.requires.divided.chunks _ c.link_after-link.ensures

pub overflow_sub-chunk : goal.overflow_sub-chunk
overflow_sub-chunk c = grind arith

pub overflow_sub-self : goal.overflow_sub-self
overflow_sub-self c = grind arith

pub returns : goal.returns
unfolding chunks_of
returns c = grind arith

pub merge-requires-clause-few : goal.merge-requires-clause-few
merge-requires-clause-few c = grind (arith, gaps_few)
