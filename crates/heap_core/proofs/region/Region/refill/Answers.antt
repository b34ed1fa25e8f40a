use Rattle.heap_core.proofs.Lemmas.{◌∙◌, ◌≡◌, refl, arith, Some, None, bytes_in_chunk, Chunk, around, refilled}
use Rattle.heap_core.proofs.region.Region.refill.Goals as goal

pub clear-requires-clause-inside : goal.clear-requires-clause-inside
clear-requires-clause-inside c =
    grind (arith, around c.requires.divided.chunks c.requires.owned.stands)

pub clear-requires-clause-before : goal.clear-requires-clause-before
clear-requires-clause-before c =
    grind (arith, around c.requires.divided.chunks c.requires.owned.stands)

pub put_chunk-requires : goal.put_chunk-requires
put_chunk-requires c =
    grind (arith, around c.requires.divided.chunks c.requires.owned.stands)

pub returns : goal.returns
returns c = let heap = c.args.self.now in let chunk = c.args.chunk in let a = around c.requires.divided.chunks c.requires.owned.stands in
    let live : Chunk = record { at = chunk.at; len = chunk.len; owner = Some c.args.name; size = c.args.n; link = None } in
    let kept : bytes_in_chunk heap.header c.put_chunk.new.arena.bytes heap.span.at live
    ≡ bytes_in_chunk heap.header c.clear.new.arena.bytes heap.span.at live = grind arith in
    refilled a c.requires.owned.owner c.requires.fits c.put_chunk.new.arena (grind arith) c.put_chunk.ensures.chunk refl
    (kept ∙ c.clear.ensures.bytes)
    c.requires.divided.gaps (grind arith)
