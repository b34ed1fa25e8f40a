use Rattle.heap_core.proofs.Lemmas.{refl, sym, ◌∙◌, arith, counted_first, counted_fits, met, counted_live, counted_free, counted_all}
use Rattle.heap_core.proofs.region.Region.stats.Goals as goal

pub loop-at-init : goal.loop-at-init
loop-at-init c = counted_first c.requires

pub chunk_at-chunk-requires-clause-inside : goal.chunk_at-chunk-requires-clause-inside
chunk_at-chunk-requires-clause-inside c =
    let m = met c.loop-at.invariant refl c.loop-at-test.true in omega (arith, m.fits, c.args.self.now.inside)

pub overflow_add-at : goal.overflow_add-at
overflow_add-at c =
    let heap = c.args.self.now in
    omega (arith, (met c.loop-at.invariant c.chunk_at-chunk.ensures c.loop-at-test.true).fits, heap.small)

pub overflow_sub-allocated : goal.overflow_sub-allocated
overflow_sub-allocated c = omega (arith, (met c.loop-at.invariant c.chunk_at-chunk.ensures c.loop-at-test.true).enough)

pub overflow_add-allocated : goal.overflow_add-allocated
overflow_add-allocated c =
    omega (
      arith,
      counted_fits c.requires
          (counted_live c.loop-at.invariant c.chunk_at-chunk.ensures c.loop-at-test.true (sym c.is_live.ensures ∙ c.if-is_live.true)),
    )

pub overflow_add-chunks : goal.overflow_add-chunks
overflow_add-chunks c =
    omega (
      arith,
      counted_fits c.requires
          (counted_live c.loop-at.invariant c.chunk_at-chunk.ensures c.loop-at-test.true (sym c.is_live.ensures ∙ c.if-is_live.true)),
    )

pub loop-at-preserved-then-is_live : goal.loop-at-preserved-then-is_live
loop-at-preserved-then-is_live c =
    counted_live c.loop-at.invariant c.chunk_at-chunk.ensures c.loop-at-test.true (sym c.is_live.ensures ∙ c.if-is_live.true)

pub loop-at-preserved : goal.loop-at-preserved
loop-at-preserved c =
    counted_free c.loop-at.invariant c.chunk_at-chunk.ensures c.loop-at-test.true (sym c.is_live.ensures ∙ c.if-is_live.false)

pub loop-at-smaller : goal.loop-at-smaller
loop-at-smaller c =
    let m = met c.loop-at.invariant c.chunk_at-chunk.ensures c.loop-at-test.true in omega (arith, m.fits)

pub loop-at-smaller-then-is_live : goal.loop-at-smaller-then-is_live
loop-at-smaller-then-is_live c =
    let m = met c.loop-at.invariant c.chunk_at-chunk.ensures c.loop-at-test.true in omega (arith, m.fits)

pub overflow_mul-overhead : goal.overflow_mul-overhead
overflow_mul-overhead c = omega (arith, counted_fits c.requires c.loop-at.invariant)

pub overflow_sub-result : goal.overflow_sub-result
overflow_sub-result c = omega (arith, counted_fits c.requires c.loop-at.invariant)

pub overflow_sub-result-2 : goal.overflow_sub-result-2
overflow_sub-result-2 c = omega (arith, counted_fits c.requires c.loop-at.invariant)

pub returns : goal.returns
returns c = counted_all c.requires c.loop-at.invariant c.loop-at-test.false
