use Rattle.heap_core.proofs.Lemmas.{sym, ◌∙◌, arith, option_map, chunks_of, find_is, owned, some_owned, around, find_named}
use Rattle.heap_core.proofs.region.Region.live_chunk.Goals as goal

pub unwrap-requires : goal.unwrap-requires
unwrap-requires c = grind (arith, some_owned, find_named)

pub returns : goal.returns
returns c =
    grind (
      arith,
      find_named,
      find_is,
      option_map,
      around c.requires.laid_out.chunks
          (owned c.args.name c.unwrap.result (chunks_of c.args.self.now c.args.arena.now.bytes)
          (sym c.find.ensures ∙ c.unwrap.ensures)).stands,
    )
