use Rattle.heap_core.proofs.Lemmas.{ap, arith, place_in_link, is_a_name, Walked, walk_from, walk_step, walk_more, stop, start_small, rises}
use Rattle.heap_core.proofs.region.Region.places_beside.Goals as goal
use Rattle.heap_core.proofs.region.Region.places_beside.Goals.{After-next_word-below}

pub link_word-next-requires : goal.link_word-next-requires
link_word-next-requires c = start_small c.args.at c.requires.gaps.chunks c.requires.gaps.linked c.requires.start

pub loop-next-init : goal.loop-next-init
loop-next-init c = grind (arith, walk_from)

pub next_word-below-requires-clause-inside : goal.next_word-below-requires-clause-inside
next_word-below-requires-clause-inside c =
    omega (arith, (walk_step c.loop-next.invariant.0 c.loop-next-test.true c.ranges.at.fits).fits)

pub next_word-below-requires-clause-free : goal.next_word-below-requires-clause-free
next_word-below-requires-clause-free c = ap is_a_name (walk_step c.loop-next.invariant.0 c.loop-next-test.true c.ranges.at.fits).free

-- the walk after the first gap of a turn
walked : (c : After-next_word-below)
    → Walked c.args.self.now c.args.arena.now.bytes c.args.at (place_in_link c.loop-next.next) (place_in_link c.next_word-below.result)
walked c = walk_more c.loop-next.invariant.0 c.loop-next-test.true c.ranges.at.fits c.next_word-below.ensures.link

pub next_word-next-requires-clause-inside : goal.next_word-next-requires-clause-inside
next_word-next-requires-clause-inside c =
    omega (
      arith,
      (walk_step (walked
          (goal.at.next_word-next-requires-clause-inside c).After-next_word-below) c.if-below-end.false c.ranges.at.fits).fits,
    )

pub next_word-next-requires-clause-free : goal.next_word-next-requires-clause-free
next_word-next-requires-clause-free c =
    ap is_a_name
    (walk_step (walked (goal.at.next_word-next-requires-clause-free c).After-next_word-below) c.if-below-end.false c.ranges.at.fits).free

pub loop-next-smaller : goal.loop-next-smaller
loop-next-smaller c =
    grind (
      arith,
      rises,
      walk_step (walked (goal.at.loop-next-smaller c).After-next_word-below) c.if-below-end.false c.ranges.at.fits,
      walk_step c.loop-next.invariant.0 c.loop-next-test.true c.ranges.at.fits,
    )

pub loop-next-preserved : goal.loop-next-preserved
loop-next-preserved c =
    grind (
      arith,
      walk_more (walked (goal.at.loop-next-preserved c).After-next_word-below) c.if-below-end.false c.ranges.at.fits
          c.next_word-next.ensures.link,
    )

pub returns-then-below-end : goal.returns-then-below-end
returns-then-below-end c =
    grind (arith, stop c.next_word-below.result (walked (goal.at.returns-then-below-end c).After-next_word-below) c.if-below-end.true)

pub returns : goal.returns
returns c = grind (arith, stop c.loop-next.next c.loop-next.invariant.0 c.loop-next-test.false)
