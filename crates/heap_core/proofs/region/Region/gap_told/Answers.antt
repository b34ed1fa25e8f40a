use Rattle.heap_core.proofs.Lemmas.{sym, ◌∙◌, arith, chunks_of, gaps_among, gap_below, below_told, gap_kept}
use Rattle.heap_core.proofs.region.Region.gap_told.Goals as goal

pub chunk_at-requires-clause-inside : goal.chunk_at-requires-clause-inside
chunk_at-requires-clause-inside c =
    let heap = c.args.self.now in let B = c.args.arena.now.bytes in
    omega (
      arith,
      (gap_kept B heap.span.at heap.footprint c.in-Some.place (gap_below c.args.at (gaps_among (chunks_of heap B)))
          (sym c.in-Some.is ∙ c.requires.below)
          (below_told heap B c.args.at c.requires.gaps.chunks c.requires.gaps.linked)).1,
      heap.inside,
    )

pub returns-in-Some : goal.returns-in-Some
returns-in-Some c =
    let heap = c.args.self.now in let B = c.args.arena.now.bytes in
    grind (
      arith,
      gap_kept B heap.span.at heap.footprint c.in-Some.place (gap_below c.args.at (gaps_among (chunks_of heap B)))
          (sym c.in-Some.is ∙ c.requires.below)
          (below_told heap B c.args.at c.requires.gaps.chunks c.requires.gaps.linked),
    )
