use Rattle.memb_core.proofs.Lemmas.{arith, ◌≡◌, ◌+◌, refl, to_le_bytes, w32, contents, written, place_of, link_inside, link_written, link_others, link_blocks, kept}
use Rattle.memb_core.proofs.pool.Pool.put_link.Goals as goal

pub returns : goal.returns
returns c =
    let pool = c.args.self.now in let bytes = c.args.arena.now.bytes in let b = c.args.b in
    let word = c.word_of.result in let fills = c.start.ensures.fills in
    let bytes_are : c.put_word.new.self
    ≡ contents (written bytes (pool.span.at + place_of pool b) (to_le_bytes w32 word)) c.args.arena.now.carved = grind arith in
    record {
      link = grind (arith, link_written);
      others = λ d ne. grind (arith, link_others);
      blocks = grind (arith, link_blocks);
      rest = grind (
        arith,
        kept pool fills bytes c.requires.within (place_of pool b) (to_le_bytes w32 word)
            (link_inside pool fills bytes c.requires.within b word c.requires.block c.word_of.type_inv) pool c.args.arena.now.carved refl,
      );
    }
