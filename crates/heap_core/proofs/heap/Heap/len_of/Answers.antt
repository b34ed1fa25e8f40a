use Rattle.heap_core.proofs.Lemmas.{arith, sym, length, Option, Some, None, option_map, ℕ, Block, chunks_of, block_bytes, owned, stored, block_found}
use Rattle.heap_core.proofs.heap.Heap.len_of.Goals as goal

abbrev length_in : Option Block → Option ℕ
length_in o = option_map length (option_map (λ block. block.bytes) o)

pub returns-in_err-chunk : goal.returns-in_err-chunk
returns-in_err-chunk c = let number = c.number_of.ensures in
    grind (
      arith,
      block_found c.self.inside.region c.args.arena.now.bytes c.number_of.result c.args.key.0.0 c.args.key.1 None number.within
          number.number c.in_err-chunk.ensures,
    )

pub returns : goal.returns
returns c = let heap = c.self.inside.region in let B = c.args.arena.now.bytes in let name = c.number_of.result in
    let chunk = c.in_ok-chunk.chunk in
    let number = c.number_of.ensures in grind (
      arith,
      block_found heap B name c.args.key.0.0 c.args.key.1 (Some chunk) number.within number.number c.in_ok-chunk.ensures,
      block_bytes (stored (grind arith)) number.within (owned name chunk (chunks_of heap B) (sym c.in_ok-chunk.ensures)),
    )
