use Rattle.heap_core.proofs.Lemmas.{arith, rules, not, sym, ap, ◌∙◌, ne_eqb, lt-ltb, resized, block_at, is_a_name, chunks_of, store_of, bytes_in_chunk, filter_placed, blocks_ascending, elsewhere, elsewhere_placed, put_named, owned_live}
use Rattle.heap_core.proofs.region.Region.relocate.Goals as goal

pub put_block-requires-clause-source : goal.put_block-requires-clause-source
put_block-requires-clause-source c = owned_live c.requires.divided.chunks c.requires.owned

pub set_aside-requires : goal.set_aside-requires
set_aside-requires c = record {
  divided = search rules;
  stands = (c.put_block.ensures.stands c.args.chunk (owned_live c.requires.divided.chunks c.requires.owned)).stands;
  live = ap is_a_name c.requires.owned.owner ∙ lt-ltb c.args.name 272 c.requires.name;
  freed = (put_named c.requires.divided.chunks c.requires.freed c.requires.joined c.put_block.ensures.kept
      (block_at c.in_ok-target.target.place c.args.name
      (resized c.args.n (bytes_in_chunk c.args.self.now.header c.args.arena.now.bytes c.args.self.now.span.at c.args.chunk)))
      (store_of c.args.self.now c.args.arena.now.bytes) c.put_block.ensures.block
      (c.requires.freed.all ∙ c.requires.joined) c.requires.name).freed;
}

pub returns-clause-block : goal.returns-clause-block
returns-clause-block c = let heap = c.args.self.now in let B = c.args.arena.now.bytes in let chunk = c.args.chunk in
    let target = c.in_ok-target.target.place in let block = block_at target c.args.name
    (resized c.args.n (bytes_in_chunk heap.header B heap.span.at chunk)) in
    let stays = ap not (ne_eqb target.at chunk.at (λ e. (elsewhere_placed c.requires.divided.chunks c.requires.some
    (owned_live c.requires.divided.chunks c.requires.owned)
    (sym c.in_ok-target.ensures.place)) (sym e))) in
    grind (
      arith,
      (put_named c.requires.divided.chunks c.requires.freed c.requires.joined c.put_block.ensures.kept block
          (store_of heap B) c.put_block.ensures.block (c.requires.freed.all ∙ c.requires.joined) c.requires.name).is,
      filter_placed
          (elsewhere chunk.at) heap.footprint block (store_of heap B).blocks stays
          (blocks_ascending heap.header B heap.span.at 0 heap.footprint (chunks_of heap B) c.requires.divided.chunks.told),
    )

pub returns-clause-places : goal.returns-clause-places
returns-clause-places c = grind arith

pub returns-clause-rest : goal.returns-clause-rest
returns-clause-rest c = grind arith
