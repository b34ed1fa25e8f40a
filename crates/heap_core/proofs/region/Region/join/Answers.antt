use Rattle.heap_core.proofs.Lemmas.{length, refl, ap, ◌∙◌, arith, HeapStore, chunks_of, unnamed, newest_is, none_newest, freed_moved, named_without, unnamed_without, around, place_told}
use Rattle.heap_core.proofs.region.Region.join.Goals as goal

pub freed_chunk-chunk-requires-clause-inside : goal.freed_chunk-chunk-requires-clause-inside
freed_chunk-chunk-requires-clause-inside c =
    let heap = c.loop-self.self in let i = c.loop-self.invariant in
    let a = around i.chunks (newest_is i.chunks i.freed c.in-Some.is refl).live.stands in
    omega (arith, a.enough, heap.inside, place_told c.loop-self.arena.bytes heap.span.at c.in-Some.at _ refl)

pub freed_chunk-chunk-requires-clause-freed : goal.freed_chunk-chunk-requires-clause-freed
freed_chunk-chunk-requires-clause-freed c =
    let i = c.loop-self.invariant in (newest_is i.chunks i.freed c.in-Some.is refl).owner

pub release-requires : goal.release-requires
unfolding chunks_of
release-requires c =
    let i = c.loop-self.invariant in
    record {
      divided = grind arith;
      live = (newest_is i.chunks i.freed c.in-Some.is c.freed_chunk-chunk.ensures).live;
      start = c.start_below-start.ensures;
    }

pub loop-self-preserved : goal.loop-self-preserved
unfolding chunks_of
loop-self-preserved c = let i = c.loop-self.invariant in let chunk =
    c.freed_chunk-chunk.result in
    let new = c.release.new.self in
    let n = newest_is i.chunks i.freed c.in-Some.is c.freed_chunk-chunk.ensures in
    record {
      chunks = c.release.ensures.chunks;
      gaps = c.release.ensures.gaps;
      freed = record {
        list = n.rest;
        linked = grind (arith, freed_moved);
        count = omega (arith, n.count, c.release.ensures.kept.freed);
        all = omega (
          arith,
          ap (λ (s : HeapStore). length (unnamed s.blocks)) c.release.ensures.block,
          unnamed_without (around i.chunks n.live.stands) n.owner (omega arith),
          i.freed.all,
          c.release.ensures.kept.freed,
        );
      };
      blocks = grind (arith, i.blocks, named_without (around i.chunks n.live.stands) n.owner (omega arith), c.release.ensures.block);
      places = c.release.ensures.kept.places ∙ i.places;
      rest = grind arith;
    }

pub returns-clause-joins : goal.returns-clause-joins
unfolding chunks_of
returns-clause-joins c = grind arith

pub returns-clause-none : goal.returns-clause-none
returns-clause-none c = grind (arith, none_newest c.loop-self.invariant.chunks c.loop-self.invariant.freed)
