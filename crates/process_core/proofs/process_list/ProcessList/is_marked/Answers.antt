use Rattle.process_core.proofs.Lemmas.{◌≡◌, false, nat_lt, nat_tests, sym, ◌∙◌, ap, arith, is_marked, marked_below, marked_kept}
use Rattle.process_core.proofs.process_list.ProcessList.is_marked.Goals as goal

pub returns-then-pid-lt20 : goal.returns-then-pid-lt20
returns-then-pid-lt20 c =
    let list = c.self.inside in
    c.is_marked.ensures
    ∙ (sym (marked_kept c.args.pid.0 list.states list.marks list.on_list.items c.self.invariant.kept)
    ∙ ap (is_marked c.args.pid.0) c.self.view_is)

pub returns-else-pid-lt20 : goal.returns-else-pid-lt20
returns-else-pid-lt20 c =
    let list = c.self.inside in
    let far : nat_lt c.args.pid.0 20 ≡ false = grind (arith, nat_tests, c.if-pid-lt20.false) in
    far ∙ sym (marked_below c.args.pid.0 list.states list.marks list.on_list.items c.self.invariant.kept
    (omega (arith, c.if-pid-lt20.false)))
    ∙ ap (is_marked c.args.pid.0) c.self.view_is
