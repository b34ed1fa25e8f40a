use Rattle.heap_core.proofs.Lemmas.{arith, Some, None, block_found}
use Rattle.heap_core.proofs.heap.Heap.place_of.Goals as goal

pub returns-in_err-chunk : goal.returns-in_err-chunk
returns-in_err-chunk c = let number = c.number_of.ensures in
    grind (
      arith,
      block_found c.self.inside.region c.args.arena.now.bytes c.number_of.result c.args.key.0.0 c.args.key.1 None number.within
          number.number c.in_err-chunk.ensures,
    )

pub returns : goal.returns
returns c = let number = c.number_of.ensures in
    grind (
      arith,
      block_found c.self.inside.region c.args.arena.now.bytes c.number_of.result c.args.key.0.0 c.args.key.1
          (Some c.in_ok-chunk.chunk) number.within number.number c.in_ok-chunk.ensures,
    )
