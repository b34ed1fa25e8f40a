use Rattle.heap_core.proofs.Lemmas.{arith, sym, ap, ◌∙◌, subst, from_le_bytes, to_le_bytes, w32, word_at, Contents, ChangesOnly, changes_only, range-written, from_le_bytes-to_le_bytes_4}
use Rattle.heap_core.proofs.headers.put_word.Goals as goal

pub returns-clause-here : goal.returns-clause-here
returns-clause-here c =
    ap (λ (a : Contents). word_at a.bytes c.args.at) c.put_word.ensures.bytes
    ∙ ap (from_le_bytes w32) (range-written c.args.arena.now.bytes c.args.at (to_le_bytes w32 c.args.word) c.requires)
    ∙ from_le_bytes-to_le_bytes_4 c.args.word c.ranges.word.fits

pub returns-clause-others : goal.returns-clause-others
returns-clause-others c =
    subst (λ (a : Contents). ChangesOnly c.args.at 4 c.args.arena.now.bytes a.bytes) (sym c.put_word.ensures.bytes)
    (changes_only c.args.arena.now.bytes c.args.at (to_le_bytes w32 c.args.word) c.requires c.args.at 4 (omega arith) (omega arith))
