use Rattle.std.proofs.Common.{None, refl}
use Rattle.std.proofs.lemmas.List.{take_more}
use Rattle.pictures.specs.declared.memory.stay.Stay.{Stay}
use Rattle.pictures.proofs.Furthest.{furthest_append}
use Rattle.pictures.proofs.svg.page.memory_columns.furthest.Goals as goal

pub loop-stay-preserved : goal.loop-stay-preserved
loop-stay-preserved c =
    let none : Stay = record { pid = 0; name = 0; at = 0; taken = 0; size = 0; first = 0; last = None } in
    let more = take_more c.args.stays.now c.loop-stay.stay-index none c.loop-stay-test.true in
    rw (c.max-reach.ensures, c.end_of.ensures, more, furthest_append, c.loop-stay.invariant) refl
