use Rattle.heap_core.proofs.Lemmas.{refl, arith, owner_named, freed_small, newest_small, set_aside, around}
use Rattle.heap_core.proofs.region.Region.set_aside.Goals as goal

pub put_chunk-requires : goal.put_chunk-requires
put_chunk-requires c =
    grind (arith, newest_small, around c.requires.divided.chunks c.requires.stands)

pub overflow_add-self : goal.overflow_add-self
overflow_add-self c = omega (arith, freed_small c.requires.divided.chunks c.requires.freed)

pub returns-clause-aside : goal.returns-clause-aside
returns-clause-aside c =
    let o = owner_named c.args.chunk.owner c.requires.live in
    set_aside (around c.requires.divided.chunks c.requires.stands) o.1 o.2 _ refl refl refl c.put_chunk.ensures.chunk
    c.put_chunk.ensures.others refl refl refl refl c.requires.divided.gaps c.requires.freed

pub returns-clause-rest : goal.returns-clause-rest
returns-clause-rest c =
    grind (arith, around c.requires.divided.chunks c.requires.stands)
