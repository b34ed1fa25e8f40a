use Rattle.heap_core.proofs.Lemmas.{arith, fits_least, laid_before, changes_then, changes_more}
use Rattle.heap_core.proofs.region.Region.lay.Goals as goal

pub leave-first-requires : goal.leave-first-requires
leave-first-requires c = grind arith

pub put_chunk-requires : goal.put_chunk-requires
put_chunk-requires c =
    grind (arith, fits_least c.requires.fits)

pub returns : goal.returns
returns c =
    let fits = c.requires.fits in let same = c.leave-first.ensures.rest in
    record {
      laid = λ bytes cut ends changed.
          laid_before cut ends fits c.leave-first.ensures.left same.span same.header changed (grind arith) (grind arith);
      kept = c.leave-first.ensures.kept;
      lowest = c.leave-first.ensures.lowest;
      first = c.leave-first.ensures.first;
      rest = grind (arith, changes_then, changes_more);
    }
