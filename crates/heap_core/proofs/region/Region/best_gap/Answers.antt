use Rattle.heap_core.proofs.Lemmas.{refl, ap, is_a_name, arith, search_begun, search_ended, search_past_short, search_past_long, search_exact, lowest_small, rises}
use Rattle.heap_core.proofs.Lemmas.GapWalks.{next_met}
use Rattle.heap_core.proofs.region.Region.best_gap.Goals as goal
use Rattle.heap_core.proofs.region.Region.best_gap.Goals.{then-len-need+else-len-need-2, else-len-need}

pub link_word-next-requires : goal.link_word-next-requires
link_word-next-requires c = lowest_small c.requires.gaps.chunks c.requires.gaps.linked

pub loop-next-init : goal.loop-next-init
loop-next-init c = grind (arith, search_begun)

pub len_told-len-requires-clause-inside : goal.len_told-len-requires-clause-inside
len_told-len-requires-clause-inside c =
    omega (arith, (next_met c.loop-next.invariant.0 c.loop-next-test.true refl).fits)

pub next_word-next-requires-clause-inside : goal.next_word-next-requires-clause-inside
next_word-next-requires-clause-inside c =
    omega (arith, (next_met c.loop-next.invariant.0 c.loop-next-test.true refl).fits)

pub next_word-next-requires-clause-free : goal.next_word-next-requires-clause-free
next_word-next-requires-clause-free c =
    ap is_a_name (next_met c.loop-next.invariant.0 c.loop-next-test.true refl).free

pub loop-next-smaller : goal.loop-next-smaller
loop-next-smaller c =
    grind (arith, rises, next_met c.loop-next.invariant.0 c.loop-next-test.true c.len_told-len.ensures)

pub loop-next-preserved : goal.loop-next-preserved
loop-next-preserved c = let B = c.args.arena.now.bytes in elim c.if-len-need.branch [
  | then-len-need+else-len-need-2 w ↦
      let s = search_past_long c.loop-next.invariant.0 c.loop-next-test.true c.len_told-len.ensures w.shorter-best.ensures refl
      (omega (arith, w.if-len-need.true)) (grind arith) c.next_word-next.ensures.link in grind arith
  | else-len-need w ↦
      let s = search_past_short c.loop-next.invariant.0 c.loop-next-test.true c.len_told-len.ensures (omega (arith, w.if-len-need.false))
      c.next_word-next.ensures.link in grind arith
]

pub returns-then-len-need-2 : goal.returns-then-len-need-2
returns-then-len-need-2 c =
    let f = search_exact c.loop-next.invariant.0 c.loop-next-test.true c.len_told-len.ensures c.shorter-best.ensures refl (omega arith)
    (grind arith) c.if-len-need-2.true c.fit_of.ensures.gap c.fit_of.ensures.below in
    record { gap = f.gap; below = f.below }

pub returns : goal.returns
returns c =
    let f = search_ended c.loop-next.last (grind arith) c.loop-next.invariant.0 c.fit_of-2.ensures.gap c.fit_of-2.ensures.below in
    record { gap = f.gap; below = f.below }
