use Rattle.process_core.proofs.Lemmas.{sym, ◌∙◌, ap, with_mark, kept_mark, mark_set, changed_none, off_list, on_list}
use Rattle.process_core.proofs.process_list.ProcessList.set_mark.Goals as goal

pub invariant_of-self : goal.invariant_of-self
invariant_of-self c =
    let kept =
    kept_mark c.args.pid.0 c.args.marked
    (on_list c.args.pid.0 c.self.view_is c.self.invariant.kept
    (λ e. c.in_default.not-Absent (c.state_of.ensures.value ∙ e)))
    c.self.invariant.kept in
    rw c.set.ensures record { kept = kept; ends = c.self.invariant.ends }

pub returns-in-Absent : goal.returns-in-Absent
returns-in-Absent c =
    let list = c.self.inside in
    rw (← c.self.view_is) (sym (changed_none c.args.pid.0 _ list.states list.marks list.on_list.items
    (off_list c.args.pid.0 c.self.view_is c.self.invariant.kept
    (sym c.in-Absent.ensures.value))))

pub returns-in_default : goal.returns-in_default
returns-in_default c =
    let list = c.self.inside in
    rw c.set.ensures
    (sym (mark_set c.args.pid.0 list.states list.marks list.on_list.items c.args.marked
    (c.state_of.ensures.known (λ e. c.in_default.not-Absent (c.state_of.ensures.value ∙ e))) c.self.invariant.kept.mark_places))
    ∙ ap (with_mark c.args.pid.0 c.args.marked) c.self.view_is
