use Rattle.std.proofs.Common.{◌≡◌, ◌∙◌, ◌≤◌, ◌+◌, ◌-◌, ◌^◌, ℕ, suc, true, false, Some, min, get_or, refl, sym, subst, arith}
use borrow.Author.Count.{below_more}
use Rattle.pictures.specs.Dump.{lines_before}
use Rattle.pictures.proofs.Told.{count_more, last_clock, so_far}
use Rattle.pictures.proofs.dump.most_at_once.Goals.{else-eq, then-eq}
use Rattle.pictures.proofs.dump.most_at_once.Goals as goal

pub loop-clock-preserved : goal.loop-clock-preserved
loop-clock-preserved c =
    let is = c.loop-clock.invariant in
    let clocks : ℕ → ℕ = λ line. get_or c.args.clocks.now line 0 in
    let index = c.loop-clock.clock-index in
    let next : suc index ≡ index + 1 = omega arith in
    let count : c.if-eq.count ≡ min (lines_before clocks index + 1) (2 ^ 64 - 1) =
    elim c.if-eq.branch [
      | then-eq w ↦
          count_more clocks index c.loop-clock.count _ c.loop-clock.before true is.before is.count (sym w.if-eq.true ∙ c.eq.ensures)
          (w.count-is ∙ w.saturating_add-count.ensures)
      | else-eq w ↦
          count_more clocks index c.loop-clock.count _ c.loop-clock.before false is.before is.count (sym w.if-eq.false ∙ c.eq.ensures)
          w.count-is
    ] in
    let small : c.if-eq.count ≤ index + 1 =
    elim c.if-eq.branch [
      | then-eq w ↦ omega (arith, w.count-is, w.saturating_add-count.ensures, is.small)
      | else-eq w ↦ omega (arith, w.count-is)
    ] in
    record {
      before = subst (λ n. Some (clocks index) ≡ last_clock clocks n) next refl;
      count = subst (λ n. c.if-eq.count ≡ min (so_far clocks n) (2 ^ 64 - 1)) next count;
      small = small;
      few = omega (arith, c.max-most.ensures, is.few, small);
      all = below_more (λ line. min (lines_before clocks line + 1) (2 ^ 64 - 1) ≤ c.max-most.result) index
          (λ line inside. omega (arith, is.all line inside, c.max-most.ensures)) (omega (arith, count, c.max-most.ensures));
    }
