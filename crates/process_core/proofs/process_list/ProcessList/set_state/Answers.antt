use Rattle.process_core.proofs.Lemmas.{sym, ◌∙◌, ap, arith, with_state, kept_state, state_set, changed_none, off_list, on_list}
use Rattle.process_core.proofs.process_list.ProcessList.set_state.Goals as goal

pub invariant_of-self : goal.invariant_of-self
invariant_of-self c =
    let kept =
    kept_state c.args.pid.0 c.args.state
    (on_list c.args.pid.0 c.self.view_is c.self.invariant.kept
    (λ e. c.in_default.not-Absent (c.state_of.ensures.value ∙ e)))
    c.requires c.self.invariant.kept in
    record { kept = kept; ends = c.self.invariant.ends }

pub returns-in-Absent : goal.returns-in-Absent
returns-in-Absent c =
    let list = c.self.inside in
    rw (← c.self.view_is) (sym (changed_none c.args.pid.0 _ list.states list.marks list.on_list.items
    (off_list c.args.pid.0 c.self.view_is c.self.invariant.kept
    (sym c.in-Absent.ensures.value))))

pub returns-in_default : goal.returns-in_default
returns-in_default c =
    let list = c.self.inside in
    sym (state_set c.args.pid.0 list.states list.marks list.on_list.items c.args.state
    (omega (
      arith,
      c.state_of.ensures.known (λ e. c.in_default.not-Absent (c.state_of.ensures.value ∙ e)),
      c.self.invariant.kept.state_places,
    )))
    ∙ ap (with_state c.args.pid.0 c.args.state) c.self.view_is
