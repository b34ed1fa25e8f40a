use Rattle.timer_core.proofs.Lemmas.{◌≡◌, ◌∙◌, ap, arith, armed_with, cell_of, deadline, first_due, none_due_after_arming, nothing_passed}
use Rattle.timer_core.proofs.watched.WatchedTable.arm.Goals as goal

pub invariant_of-self : goal.invariant_of-self
invariant_of-self c =
    let at : deadline (cell_of c.args.timer (armed_with c.args.timer c.args.cell c.self.inside.table)) ≡ c.deadline.result =
    grind arith in (
      λ clock before.
          ap (first_due clock) c.arm.ensures.armed
          ∙ none_due_after_arming clock c.args.timer c.args.cell c.self.inside.table (omega (arith, c.min-self-inside.ensures))
          (c.self.invariant.0 clock (omega arith)),
      nothing_passed _ _,
    )
