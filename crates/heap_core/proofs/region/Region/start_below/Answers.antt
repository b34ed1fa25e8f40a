use Rattle.heap_core.proofs.Lemmas.{inr, arith, Owned, Around, chunks_of, around, owned, starts_after}
use Rattle.heap_core.proofs.region.Region.start_below.Goals as goal
use Rattle.heap_core.proofs.region.Region.start_below.Goals.{In-Some}

is : (c : In-Some) → Owned c.args.name c.in-Some.other (chunks_of c.args.self.now c.args.arena.now.bytes)
is c = owned c.args.name c.in-Some.other (chunks_of c.args.self.now c.args.arena.now.bytes) (grind arith)

beside : (c : In-Some) → Around c.args.self.now c.args.arena.now.bytes c.in-Some.other
beside c = around c.requires.laid_out.chunks (is c).stands

pub overflow_add-end : goal.overflow_add-end
overflow_add-end c =
    let heap = c.args.self.now in omega (arith, (beside (goal.at.overflow_add-end c).In-Some).fits, heap.inside, heap.small)

pub gap_after-requires-clause-stands : goal.gap_after-requires-clause-stands
gap_after-requires-clause-stands c = (is (goal.at.gap_after-requires-clause-stands c).In-Some).stands

pub returns : goal.returns
returns c =
    let k = (goal.at.returns c).In-Some in
    let a = beside k in
    inr (grind (arith, starts_after a c.requires.laid_out.gaps.linked (grind (arith, is k)) (grind (arith, a.behind_is))))
