use Rattle.timer_core.proofs.Lemmas.{◌≡◌, true, ◌∙◌, ap, arith, armed_with, is_armed, timers_of, cell_given, cell_changed, head_added}
use Rattle.timer_core.proofs.table.TimerTable.arm.Goals as goal

pub invariant_of-self : goal.invariant_of-self
invariant_of-self c =
    rw c.slot-slot.ensures.value
    (cell_changed c.self.inside c.args.timer c.args.cell c.self.invariant c.requires.named c.requires.start (grind arith)).sound

pub invariant_of-self-else-is_armed : goal.invariant_of-self-else-is_armed
invariant_of-self-else-is_armed c =
    rw c.slot-slot.ensures.value
    (head_added c.self.inside c.args.timer c.args.cell c.self.invariant c.requires.named c.requires.start (grind arith)).sound

pub returns-then-is_armed : goal.returns-then-is_armed
returns-then-is_armed c =
    let armed : is_armed c.args.timer (timers_of c.self.inside) ≡ true = grind arith in
    record {
      armed = rw c.slot-slot.ensures.value
          (cell_changed c.self.inside c.args.timer c.args.cell c.self.invariant c.requires.named c.requires.start armed).value
          ∙ ap (armed_with c.args.timer c.args.cell) c.self.view_is;
      given = grind (arith, cell_given);
    }

pub returns-else-is_armed : goal.returns-else-is_armed
returns-else-is_armed c =
    record {
      armed = rw c.slot-slot.ensures.value
          (head_added c.self.inside c.args.timer c.args.cell c.self.invariant c.requires.named c.requires.start (grind arith)).value
          ∙ ap (armed_with c.args.timer c.args.cell) c.self.view_is;
      given = grind (arith, cell_given);
    }
