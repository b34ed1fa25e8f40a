use Rattle.process_core.proofs.Lemmas.{◌≡◌, [], ◌-◌, length, refl, sym, ◌∙◌, arith, no_application_marked, ends_at, numbers_seen}
use Rattle.process_core.proofs.process_list.ProcessList.walk_to_poll.Goals as goal
use Rattle.process_core.proofs.process_list.ProcessList.walk_to_poll.Goals.{then-is_application_marked, else-is_application_marked}

pub returns-clause-rest : goal.returns-clause-rest
returns-clause-rest c =
    let list = c.self.inside in
    let same = numbers_seen c.self.invariant.kept c.self.view_is in
    elim c.if-is_application_marked.branch [
      | then-is_application_marked w ↦ ([], rw (c.over_from.ensures, w.at-is, c.copied.ensures.value) same, refl)
      | else-is_application_marked w ↦
          let ends = c.self.invariant.ends in
          let at : c.if-is_application_marked.at ≡ length list.on_list.items - 4 =
          omega (arith, w.at-is, w.len.ensures.value, w.from.ensures) in
          let none =
          no_application_marked list.states list.marks list.on_list.items ends.applications c.self.invariant.kept ends.above
          (sym c.is_application_marked.ensures ∙ w.if-is_application_marked.false) in (
            ends.applications,
            rw (c.over_from.ensures, at, c.copied.ensures.value) (same ∙ ends_at list.on_list.items ends),
            rw (← c.self.view_is) none,
          )
    ]
