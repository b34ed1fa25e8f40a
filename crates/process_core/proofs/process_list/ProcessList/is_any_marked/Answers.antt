use Rattle.process_core.proofs.Lemmas.{sym, ◌∙◌, ap, is_any_marked, any_counted}
use Rattle.process_core.proofs.process_list.ProcessList.is_any_marked.Goals as goal

pub returns : goal.returns
returns c =
    let list = c.self.inside in
    c.is_any.ensures
    ∙ (sym (any_counted list.states list.marks list.on_list.items c.self.invariant.kept) ∙ ap is_any_marked c.self.view_is)
