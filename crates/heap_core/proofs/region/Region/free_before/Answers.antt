use Rattle.heap_core.proofs.Lemmas.{sym, ◌∙◌, arith, around, below_is, last_gap, gap_ends_below}
use Rattle.heap_core.proofs.region.Region.free_before.Goals as goal

pub overflow_add-gap : goal.overflow_add-gap
overflow_add-gap c =
    let heap = c.args.self.now in let a = around c.requires.gaps.chunks c.requires.stands in
    omega (
      arith,
      gap_ends_below a c.in-Some.gap (last_gap c.in-Some.gap a.before
          (sym (below_is a c.requires.gaps.linked) ∙ sym c.requires.below ∙ c.in-Some.is)),
      heap.inside,
      heap.small,
    )

pub returns-in-Some : goal.returns-in-Some
returns-in-Some c = grind arith
