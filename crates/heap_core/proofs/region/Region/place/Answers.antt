use Rattle.heap_core.proofs.Lemmas.{sym, ◌∙◌, leb, arith, cond-true, cond-false, le-leb, lt-leb, end_is, best_fits, around}
use Rattle.heap_core.proofs.region.Region.place.Goals as goal

pub overflow_cast-room : goal.overflow_cast-room
overflow_cast-room c =
    let f = best_fits c.requires.gaps.chunks (sym c.in-Some.is ∙ c.best_gap-fit.ensures.gap) in
    let heap = c.args.self.now in
    omega (arith, f.fits, f.len, (around c.requires.gaps.chunks f.stands).fits, heap.inside, heap.small)

pub overflow_sub-gap : goal.overflow_sub-gap
overflow_sub-gap c =
    omega (arith, (best_fits c.requires.gaps.chunks (sym c.in-Some.is ∙ c.best_gap-fit.ensures.gap)).fits)

pub room_taken-requires : goal.room_taken-requires
room_taken-requires c =
    omega (arith, (best_fits c.requires.gaps.chunks (sym c.in-Some.is ∙ c.best_gap-fit.ensures.gap)).fits)

pub returns-in-None : goal.returns-in-None
returns-in-None c = grind (arith, end_is, cond-true, leb, le-leb)

pub returns-in-None-2 : goal.returns-in-None-2
returns-in-None-2 c = grind (arith, end_is, cond-false, leb, lt-leb)
